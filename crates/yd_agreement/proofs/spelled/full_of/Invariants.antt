use Rattle.std.proofs.Common.{◌≡◌, ◌++◌, drop}
use Rattle.yd_agreement.specs.Runs.{full_runs, lent_runs}
use Rattle.yd_agreement.proofs.spelled.full_of.Given as goal

-- with the full ones of the runs that are left, these are all full ones
abbrev pub invariant-loop-run : goal.invariant-loop-run
invariant-loop-run l = lent_runs l.full.items ++ full_runs (lent_runs (drop l.run-index l.runs)) ≡ full_runs (lent_runs l.runs)
