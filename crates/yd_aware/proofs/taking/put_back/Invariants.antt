use Rattle.std.proofs.Common.{◌≡◌}
use Rattle.yd_aware.specs.Undoing.{restored}
use Rattle.yd_aware.proofs.taking.put_back.Given as goal

abbrev pub invariant-loop-change : goal.invariant-loop-change
invariant-loop-change l = restored l.changes.items l.rows.entries ≡ restored l.fn.changes.items l.fn.rows.entries

abbrev pub decreases-loop-change : goal.decreases-loop-change
decreases-loop-change l = goal.left-loop-change l
