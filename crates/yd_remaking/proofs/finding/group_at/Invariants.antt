use Rattle.std.proofs.Common.{◌≡◌, None, length}
use Rattle.std.specs.Prelude.{IfSome}
use Rattle.yd_ids.specs.Id.{IsId}
use Rattle.yd_state.specs.Lent.{units_left}
use Rattle.yd_remaking.specs.Group.{units_from}
use Rattle.yd_remaking.specs.Rows.{unit_before, HoldValid}
use Rattle.yd_remaking.proofs.finding.group_at.Given as goal

-- what came is passed, and ends with this unit
abbrev pub invariant-loop-piece : goal.invariant-loop-piece
invariant-loop-piece l = record {
  in_range : IfSome l.before IsId;
  before : unit_before l.fn.id l.before (units_left l.view) ≡ unit_before l.fn.id None (units_left l.initial.view);
  units : units_from l.fn.id (units_left l.view) ≡ units_from l.fn.id (units_left l.initial.view);
  valid : HoldValid (units_left l.view);
}

abbrev pub decreases-loop-piece : goal.decreases-loop-piece
decreases-loop-piece l = length (units_left l.view)
