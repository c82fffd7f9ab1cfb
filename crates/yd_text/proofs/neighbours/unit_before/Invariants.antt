use Rattle.std.proofs.Common.{◌≡◌, None, length}
use Rattle.std.specs.Prelude.{IfSome}
use Rattle.yd_ids.specs.Id.{IsId}
use Rattle.yd_state.specs.Lent.{units_left}
use Rattle.yd_text.specs.Rows.{unit_before}
use Rattle.yd_text.proofs.neighbours.unit_before.Given as goal

-- what came ends with this unit
abbrev pub invariant-loop-piece : goal.invariant-loop-piece
invariant-loop-piece l = record {
  in_range : IfSome l.before IsId;
  unit : unit_before l.id l.before (units_left l.view) ≡ unit_before l.id None (units_left l.initial.view);
}

abbrev pub decreases-loop-piece : goal.decreases-loop-piece
decreases-loop-piece l = length (units_left l.view)
