use Rattle.yd_building.specs.Builder.{group_value}
use Rattle.yd_skimming.proofs.PartingLemmas.{run_part, run_part_taken}
use Rattle.yd_skimming.proofs.parting.part_of_run.Goals as goal

pub group_of-requires : goal.group_of-requires
group_of-requires c = run_part_taken c.args.run.now c.args.clock c.left_out-n.result c.behind-entry.result c.from_ref.result.now c.from_ref.ensures.value c.requires.taken
    c.left_out-n.ensures.left c.left_out-n.ensures.inside c.behind-entry.ensures

pub returns-in-Ok : goal.returns-in-Ok
returns-in-Ok c = run_part c.args.run.now c.args.clock c.left_out-n.result c.behind-entry.result c.from_ref.result.now (group_value c.in-Ok.group) c.from_ref.ensures.value
    c.left_out-n.ensures.left c.left_out-n.ensures.inside c.behind-entry.ensures c.in-Ok.ensures
