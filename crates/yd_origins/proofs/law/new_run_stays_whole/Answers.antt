use Rattle.yd_origins.proofs.RunLemmas.{scan_next, run_together}
use Rattle.yd_origins.proofs.law.new_run_stays_whole.Goals as goal

pub returns : goal.returns
returns c = record {
  behind_left = λ left right list new p e none. scan_next left right new list p e none;
  as_one = λ left right list first units run distinct is_new others. run_together left right list first units run distinct is_new others;
}
