use Rattle.std.proofs.Common.{◌≡◌, ◌≤◌, drop, length}
use Rattle.yd_editing.specs.Made.{removed_by}
use Rattle.yd_making.specs.Steps.{steps_value}
use Rattle.yd_making.proofs.gathering.removed.Given as goal

-- those of the last steps
abbrev pub invariant-loop-i : goal.invariant-loop-i
invariant-loop-i l = (l.i ≤ length l.steps) × (l.removed ≡ removed_by (steps_value (drop l.i l.steps)))

abbrev pub decreases-loop-i : goal.decreases-loop-i
decreases-loop-i l = l.i
