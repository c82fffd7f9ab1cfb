use Rattle.std.proofs.Common.{◌≡◌, length}
use Rattle.std.specs.Prelude.{IsTrue, option_copied}
use Rattle.yd_any.specs.Tree.{null}
use Rattle.yd_any.specs.Valid.{is_valid_json}
use Rattle.yd_state.specs.Lent.{units_left}
use Rattle.yd_text.specs.Marks.{value_given, value_up_to, HoldValid}
use Rattle.yd_text.proofs.marks.value_at.Given as goal

-- this value is in force behind what came
abbrev pub invariant-loop-piece : goal.invariant-loop-piece
invariant-loop-piece l = record {
  value : value_up_to l.key l.unit (value_given (option_copied l.value)) (units_left l.view) ≡ value_up_to l.key l.unit null (units_left l.initial.view);
  valid : IsTrue (is_valid_json (value_given (option_copied l.value)));
  hold : HoldValid (units_left l.view);
}

abbrev pub decreases-loop-piece : goal.decreases-loop-piece
decreases-loop-piece l = length (units_left l.view)
