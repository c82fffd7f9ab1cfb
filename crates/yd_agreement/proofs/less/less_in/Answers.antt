use Rattle.std.proofs.Common.{length, get_or, map, refl, ap, ◌∙◌, arith}
use Rattle.yd_ops.specs.Valid.{IsValidBlock}
use Rattle.yd_ops.specs.View.{block_value, struct_value, update_value}
use Rattle.yd_ops.proofs.EachLemmas.{each_read}
use Rattle.yd_ops.specs.Deletes.{blocks_spans, structs_spans}
use Rattle.yd_agreement.proofs.LessLemmas.{all_noted, less_is, note_next, noted_are_spans}
use Rattle.yd_agreement.proofs.less.less_in.Goals as goal

pub note_block-requires : goal.note_block-requires
note_block-requires c = each_read block_value IsValidBlock c.args.update.now.blocks c.loop-block.block-index c.block-item.result c.requires.blocks
    (omega (arith, c.loop-block-test.true, ap length c.as_slice-block-items.ensures)) (c.block-item.is ∙ ap (λ bs. get_or bs c.loop-block.block-index
    c.block-item.result) c.as_slice-block-items.ensures)

pub loop-block-preserved : goal.loop-block-preserved
loop-block-preserved c = note_next (λ bs. blocks_spans (map block_value bs)) (λ b. structs_spans b.client b.clock (map struct_value b.structs)) c.args.update.now.blocks
    c.loop-block.block-index c.block-item.result c.loop-block.spans.items c.note_block.new.spans.items (λ rest. refl)
    (omega (arith, c.loop-block-test.true, ap length c.as_slice-block-items.ensures)) (c.block-item.is ∙ ap (λ bs. get_or bs c.loop-block.block-index
    c.block-item.result) c.as_slice-block-items.ensures) c.in_ok-note_block.ensures
    ∙ c.loop-block.invariant

pub of_spans-requires : goal.of_spans-requires
of_spans-requires c = noted_are_spans (update_value c.args.update.now) c.loop-block.spans.items c.requires
    (all_noted c.args.update.now.blocks c.loop-block.block-index c.loop-block.spans.items (omega (arith, c.loop-block-test.false, ap length c.as_slice-block-items.ensures))
    c.loop-block.invariant)

pub returns : goal.returns
returns c = less_is (update_value c.args.update.now) c.loop-block.spans.items c.in_ok-less.less
    (all_noted c.args.update.now.blocks c.loop-block.block-index c.loop-block.spans.items (omega (arith, c.loop-block-test.false, ap length c.as_slice-block-items.ensures))
    c.loop-block.invariant)
    c.in_ok-less.ensures.ids
