use Rattle.std.proofs.Common.{◌≡◌, ◌++◌, map, drop}
use Rattle.yd_ops.specs.View.{update_value}
use Rattle.yd_agreement.specs.Runs.{lent_runs, runs_of_updates}
use Rattle.yd_agreement.proofs.spelled.spelled.Given as goal

-- with those of the updates that are left, these are the runs of all
abbrev pub invariant-loop-update : goal.invariant-loop-update
invariant-loop-update l = lent_runs l.runs.items ++ runs_of_updates (map update_value (drop l.update-index l.updates)) ≡ runs_of_updates (map update_value l.updates)
