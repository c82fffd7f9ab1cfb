use Rattle.std.proofs.Common.{◌≤◌, length, drop}
use Rattle.yd_ids.specs.Set.{AreMaximal}
use Rattle.yd_ids.proofs.gathering.are_maximal.Given as goal

abbrev pub invariant-loop-at : goal.invariant-loop-at
invariant-loop-at l = (l.at ≤ length l.spans) × AreMaximal (drop l.at l.spans)

abbrev pub decreases-loop-at : goal.decreases-loop-at
decreases-loop-at l = l.at
