use Rattle.std.proofs.Common.{◌≡◌, ◌+◌, length}
use Rattle.yd_state.specs.Lent.{units_left}
use Rattle.yd_doc.specs.Counted.{counted_ids}
use Rattle.yd_places.specs.Lent.{lent_to}
use Rattle.yd_places.proofs.counting.count_to.Given as goal

-- those that are counted, and those that come up to the unit, are all
abbrev pub invariant-loop-piece : goal.invariant-loop-piece
invariant-loop-piece l = l.count + length (counted_ids (lent_to l.with_it l.id (units_left l.view))) ≡ length (counted_ids (lent_to l.with_it l.id (units_left l.initial.view)))

abbrev pub decreases-loop-piece : goal.decreases-loop-piece
decreases-loop-piece l = length (units_left l.view)
