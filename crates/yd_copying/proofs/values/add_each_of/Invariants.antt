use Rattle.std.proofs.Common.{◌≡◌, ◌++◌, map, drop}
use Rattle.yd_ops.specs.View.{unit_value}
use Rattle.yd_copying.proofs.values.add_each_of.Given as goal

-- with the units that are left, all are copied
abbrev pub invariant-loop-unit : goal.invariant-loop-unit
invariant-loop-unit l = map unit_value l.all ++ map unit_value (drop l.unit-index l.units) ≡ map unit_value l.initial.all ++ map unit_value l.units
