use Rattle.std.proofs.Common.{◌≡◌, false, map, take, drop}
use Rattle.yd_any.specs.Tree.{AnyTree}
use Rattle.yd_ops.specs.Operation.{text_unit, Operation}
use Rattle.yd_state.specs.Lent.{lent_from}
use Rattle.yd_modes.specs.Roles.{Way}
use Rattle.yd_modes.specs.Marks.{marks_fields}
use Rattle.yd_modes.specs.Gathering.{Gathers}
use Rattle.yd_modes.proofs.taking.take_units.Given as goal

-- so many units came, under the attributes in force
abbrev pub invariant-loop-i : goal.invariant-loop-i
invariant-loop-i l = record {
  settled : marks_fields l.gathering.under.items ≡ marks_fields l.gathering.marks.items;
  gathers : (way : Way) (show : Operation → AnyTree) → Gathers way show l.initial.gathering l.gathering (lent_from l.id false (take l.i (drop l.offset (map text_unit l.units))));
}
