use Rattle.std.proofs.Common.{drop}
use Rattle.yd_any.specs.AnyView.{items_trees}
use Rattle.yd_fields.specs.UpdateFields.{fields_of_trees}
use Rattle.yd_fields.proofs.WritesLemmas.{Remain}
use Rattle.yd_fields.proofs.content_writing.write_items.Given as goal

abbrev pub invariant-loop-item : goal.invariant-loop-item
invariant-loop-item g l = Remain g.W.FieldWriter.with_field g.W.FieldWriter.is_spelled (fields_of_trees (items_trees l.items)) (fields_of_trees (items_trees (drop l.item-index l.items))) l.fn.writer l.writer
