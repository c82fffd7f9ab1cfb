use Rattle.std.proofs.Common.{◌++◌, map, length, get_or, refl, ap, ◌∙◌, arith}
use Rattle.yd_ops.specs.Valid.{IsValidBlock}
use Rattle.yd_ops.specs.View.{block_value, struct_value}
use Rattle.yd_ops.proofs.EachLemmas.{each_read}
use Rattle.yd_merge.specs.Lending.{blocks_groups, structs_groups}
use Rattle.yd_merge.specs.Reaching.{spans_of}
use Rattle.yd_skimming.proofs.NotingLemmas.{noted_next}
use Rattle.yd_skimming.proofs.noting.note_update.Goals as goal

pub note_block-requires-clause-block : goal.note_block-requires-clause-block
note_block-requires-clause-block c = each_read block_value IsValidBlock c.args.update.now.blocks c.loop-block.block-index c.block-item.result c.requires.update.blocks
    (omega (arith, c.loop-block-test.true, ap length c.as_slice-block-items.ensures)) (c.block-item.is ∙ ap (λ bs. get_or bs c.loop-block.block-index
    c.block-item.result) c.as_slice-block-items.ensures)

pub loop-block-preserved : goal.loop-block-preserved
loop-block-preserved c = record {
  spans = c.note_block.ensures.spans;
  noted = noted_next (λ bs. blocks_groups (map block_value bs)) (λ bs. blocks_groups (map block_value bs))
      (structs_groups c.block-item.result.client c.block-item.result.clock (map struct_value c.block-item.result.structs)) c.args.update.now.blocks c.loop-block.block-index c.block-item.result
      c.loop-block.spans.items c.note_block.new.spans.items (c.args.spans.now.items ++ spans_of (blocks_groups (map block_value c.args.update.now.blocks))) (λ rest. refl)
      (omega (arith, c.loop-block-test.true, ap length c.as_slice-block-items.ensures)) (c.block-item.is ∙ ap (λ bs. get_or bs c.loop-block.block-index
      c.block-item.result) c.as_slice-block-items.ensures) c.in_ok-note_block.ensures.noted c.loop-block.invariant.noted;
}
