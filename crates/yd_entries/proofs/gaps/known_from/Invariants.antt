use Rattle.std.proofs.Common.{◌≤◌, ◌-◌}
use Rattle.yd_entries.specs.Taking.{AreCovered}
use Rattle.yd_entries.proofs.gaps.known_from.Given as goal

abbrev pub invariant-loop-count : goal.invariant-loop-count
invariant-loop-count l = (l.count ≤ l.most) × AreCovered l.taken l.id l.count

abbrev pub decreases-loop-count : goal.decreases-loop-count
decreases-loop-count l = l.most - l.count
