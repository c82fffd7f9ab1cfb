use Rattle.std.proofs.Common.{length, get_or, ap, ◌∙◌, arith}
use Rattle.yd_ops.specs.Valid.{IsValidBlock}
use Rattle.yd_ops.specs.View.{block_value}
use Rattle.yd_ops.proofs.EachLemmas.{each_read}
use Rattle.yd_merge.proofs.lending.lend_update.Goals as goal

pub lend_block-requires-clause-block : goal.lend_block-requires-clause-block
lend_block-requires-clause-block c = each_read block_value IsValidBlock c.args.update.now.blocks c.loop-block.block-index c.block-item.result c.requires.update.blocks
    (omega (arith, c.loop-block-test.true, ap length c.as_slice-block-items.ensures)) (c.block-item.is ∙ ap (λ bs. get_or bs c.loop-block.block-index
    c.block-item.result) c.as_slice-block-items.ensures)
