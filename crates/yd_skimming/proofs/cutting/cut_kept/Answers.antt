use Rattle.yd_ids.specs.Vector.{clock_of}
use Rattle.yd_ops.specs.View.{update_value}
use Rattle.yd_skimming.proofs.CuttingLemmas.{cuts_so, fails_so}
use Rattle.yd_skimming.proofs.cutting.cut_kept.Goals as goal

pub returns-in-Err-clause-fails : goal.returns-in-Err-clause-fails
returns-in-Err-clause-fails c = fails_so update_value c.args.bytes.now c.in-Err.error c.in-Err.ensures.exact.rightly

pub returns-in_ok-written-in-Ok-clause-cut : goal.returns-in_ok-written-in-Ok-clause-cut
returns-in_ok-written-in-Ok-clause-cut c = cuts_so c.args.bytes.now c.in_ok-written-in-Ok.written.items (clock_of c.args.vector.now) (update_value c.in-Ok.update) c.in-Ok.ensures.exact.rightly
    c.in-Ok.ensures.valid c.in_ok-written-in-Ok.ensures
