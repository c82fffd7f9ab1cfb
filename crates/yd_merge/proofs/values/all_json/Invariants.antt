use Rattle.std.proofs.Common.{◌≡◌, map, take}
use Rattle.yd_ops.specs.View.{unit_value}
use Rattle.yd_merge.proofs.values.all_json.Given as goal

-- the units so far are copied
abbrev pub invariant-loop-unit : goal.invariant-loop-unit
invariant-loop-unit l = map unit_value l.copy ≡ map unit_value (take l.unit-index l.units)
