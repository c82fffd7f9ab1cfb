use Rattle.std.proofs.Common.{drop, map}
use Rattle.yd_ops.specs.View.{block_value}
use Rattle.yd_fields.specs.UpdateFields.{fields_of_blocks}
use Rattle.yd_fields.proofs.WritesLemmas.{Remain}
use Rattle.yd_fields.proofs.update_writing.write_blocks.Given as goal

abbrev pub invariant-loop-block : goal.invariant-loop-block
invariant-loop-block g l = Remain g.W.FieldWriter.with_field g.W.FieldWriter.is_spelled (fields_of_blocks (map block_value l.blocks)) (fields_of_blocks (map block_value (drop l.block-index l.blocks))) l.fn.writer l.writer
