use Rattle.std.proofs.Common.{drop, map}
use Rattle.yd_ops.specs.View.{struct_value}
use Rattle.yd_fields.specs.UpdateFields.{fields_of_structs}
use Rattle.yd_fields.proofs.WritesLemmas.{Remain}
use Rattle.yd_fields.proofs.struct_writing.write_structs.Given as goal

abbrev pub invariant-loop-entry : goal.invariant-loop-entry
invariant-loop-entry g l = Remain g.W.FieldWriter.with_field g.W.FieldWriter.is_spelled (fields_of_structs (map struct_value l.structs)) (fields_of_structs (map struct_value (drop l.entry-index l.structs))) l.fn.writer l.writer
