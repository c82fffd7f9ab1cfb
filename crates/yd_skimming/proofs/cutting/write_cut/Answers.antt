use Rattle.yd_ids.specs.Vector.{clock_of}
use Rattle.yd_ops.specs.View.{update_value}
use Rattle.yd_grouping.specs.Merged.{cut_update}
use Rattle.yd_skimming.proofs.CuttingLemmas.{written_so}
use Rattle.yd_skimming.proofs.cutting.write_cut.Goals as goal

pub returns-in_ok-written-in-Ok : goal.returns-in_ok-written-in-Ok
returns-in_ok-written-in-Ok c = written_so c.in_ok-written-in-Ok.written.items (update_value c.in-Ok.cut) (cut_update (update_value c.args.update.now) (clock_of c.args.vector.now)) c.in-Ok.ensures.cut
    c.in_ok-written-in-Ok.ensures.written c.in_ok-written-in-Ok.ensures.read_again
