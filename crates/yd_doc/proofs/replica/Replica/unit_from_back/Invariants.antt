use Rattle.std.proofs.Common.{◌≡◌, ◌+◌, ℕ, length}
use Rattle.std.specs.Prelude.{slice_get}
use Rattle.yd_state.specs.Lent.{units_left}
use Rattle.yd_doc.specs.Counted.{counted_ids}
use Rattle.yd_doc.proofs.replica.Replica.unit_from_back.Given as goal

-- the unit keeps its index, and so many are left behind it
abbrev pub invariant-loop-piece : goal.invariant-loop-piece
invariant-loop-piece l = (index : ℕ) → index + 1 + l.behind ≡ length (counted_ids (units_left l.initial.view)) →
    (slice_get (counted_ids (units_left l.view)) index ≡ slice_get (counted_ids (units_left l.initial.view)) index)
    × (index + 1 + l.left ≡ length (counted_ids (units_left l.view)))

abbrev pub decreases-loop-piece : goal.decreases-loop-piece
decreases-loop-piece l = length (units_left l.view)
