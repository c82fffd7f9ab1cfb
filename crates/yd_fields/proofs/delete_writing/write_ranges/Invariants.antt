use Rattle.std.proofs.Common.{drop}
use Rattle.yd_fields.specs.UpdateFields.{fields_of_ranges}
use Rattle.yd_fields.specs.Writes.{AreRangesFrom}
use Rattle.yd_fields.proofs.WritesLemmas.{Remain}
use Rattle.yd_fields.proofs.delete_writing.write_ranges.Given as goal

abbrev pub invariant-loop-span : goal.invariant-loop-span
invariant-loop-span g l = record {
  ranges : AreRangesFrom l.before (drop l.span-index l.spans);
  remain : Remain g.W.FieldWriter.with_field g.W.FieldWriter.is_spelled (fields_of_ranges 0 l.spans) (fields_of_ranges l.before (drop l.span-index l.spans)) l.fn.writer l.writer;
}
