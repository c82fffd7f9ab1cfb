use Rattle.std.proofs.Common.{drop, map}
use Rattle.yd_ops.specs.View.{unit_value}
use Rattle.yd_fields.specs.UpdateFields.{field_of_unit}
use Rattle.yd_fields.proofs.WritesLemmas.{Remain}
use Rattle.yd_fields.proofs.content_writing.write_units.Given as goal

abbrev pub invariant-loop-unit : goal.invariant-loop-unit
invariant-loop-unit g l = Remain g.W.FieldWriter.with_field g.W.FieldWriter.is_spelled (map field_of_unit (map unit_value l.units)) (map field_of_unit (map unit_value (drop l.unit-index l.units))) l.fn.writer l.writer
