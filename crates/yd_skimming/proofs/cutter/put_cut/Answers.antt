use Rattle.yd_skimming.proofs.CutterLemmas.{put_whole}
use Rattle.yd_skimming.proofs.cutter.put_cut.Goals as goal

pub returns-then-clock-id : goal.returns-then-clock-id
returns-then-clock-id c = put_whole c.in_ok-put.put c.args.writer.now c.put.new.self c.args.clock c.args.id c.args.entry.now c.requires.placed c.requires.units c.if-clock-id.true c.in_ok-put.ensures
