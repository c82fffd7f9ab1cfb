use Rattle.std.proofs.Common.{false, take, drop}
use Rattle.yd_any.specs.Tree.{AnyTree}
use Rattle.yd_ops.specs.Operation.{Operation, units_of_content}
use Rattle.yd_ops.specs.View.{content_value}
use Rattle.yd_state.specs.Lent.{lent_from}
use Rattle.yd_modes.specs.Roles.{Values, ShowsPlain, ArePlainValues}
use Rattle.yd_modes.specs.Listed.{Lists}
use Rattle.yd_modes.proofs.values.list_values.Given as goal

-- so many values came
abbrev pub invariant-loop-i : goal.invariant-loop-i
invariant-loop-i l = (show : Operation → AnyTree) → ShowsPlain show → ArePlainValues Values (units_of_content (content_value l.piece.content.now)) →
    Lists show l.initial.listed l.listed (lent_from l.piece.id false (take l.i (drop l.piece.offset (units_of_content (content_value l.piece.content.now)))))
