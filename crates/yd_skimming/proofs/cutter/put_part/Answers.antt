use Rattle.yd_ops.specs.View.{struct_value}
use Rattle.yd_building.specs.Builder.{group_value}
use Rattle.yd_skimming.proofs.CutterLemmas.{part_is_placed, put_part}
use Rattle.yd_skimming.proofs.cutter.put_part.Goals as goal

pub put-requires : goal.put-requires
put-requires c = part_is_placed c.args.clock c.args.id c.args.entry.now c.id-first.result (struct_value c.into_struct.result) (group_value c.in_ok-group.group) c.requires.placed c.requires.units
    c.in_ok-group.ensures c.id-first.ensures c.into_struct.ensures

pub returns : goal.returns
returns c = put_part c.in_ok-put.put c.args.writer.now c.put.new.self c.args.clock c.args.id c.args.entry.now c.id-first.result (struct_value c.into_struct.result)
    (group_value c.in_ok-group.group) c.in_ok-group.ensures c.id-first.ensures c.into_struct.ensures c.in_ok-put.ensures
