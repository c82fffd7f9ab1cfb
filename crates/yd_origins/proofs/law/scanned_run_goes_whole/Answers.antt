use Rattle.yd_origins.proofs.RunLemmas.{run_whole}
use Rattle.yd_origins.proofs.law.scanned_run_goes_whole.Goals as goal

pub returns : goal.returns
returns c = λ left right new first units passed conflicting rest run not_right not_left.
    run_whole left right new first units passed conflicting rest run not_right not_left
