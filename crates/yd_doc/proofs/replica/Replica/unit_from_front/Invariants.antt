use Rattle.std.proofs.Common.{◌≡◌, length}
use Rattle.std.specs.Prelude.{slice_get}
use Rattle.yd_state.specs.Lent.{units_left}
use Rattle.yd_doc.specs.Counted.{counted_ids}
use Rattle.yd_doc.proofs.replica.Replica.unit_from_front.Given as goal

-- the unit is so many behind those that came
abbrev pub invariant-loop-piece : goal.invariant-loop-piece
invariant-loop-piece l = slice_get (counted_ids (units_left l.view)) l.left ≡ slice_get (counted_ids (units_left l.initial.view)) l.index

abbrev pub decreases-loop-piece : goal.decreases-loop-piece
decreases-loop-piece l = length (units_left l.view)
