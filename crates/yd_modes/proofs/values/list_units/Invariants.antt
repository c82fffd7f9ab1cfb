use Rattle.std.proofs.Common.{false, map, take, drop}
use Rattle.yd_any.specs.Tree.{AnyTree}
use Rattle.yd_ops.specs.Operation.{text_unit, Operation}
use Rattle.yd_state.specs.Lent.{lent_from}
use Rattle.yd_modes.specs.Listed.{Lists}
use Rattle.yd_modes.proofs.values.list_units.Given as goal

-- so many units came
abbrev pub invariant-loop-i : goal.invariant-loop-i
invariant-loop-i l = (show : Operation → AnyTree) → Lists show l.initial.listed l.listed (lent_from l.id false (take l.i (drop l.offset (map text_unit l.units))))
