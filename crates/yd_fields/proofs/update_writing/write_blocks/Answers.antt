use Rattle.std.proofs.Common.{List, map, refl}
use Rattle.yd_ops.specs.Valid.{IsValidBlock}
use Rattle.yd_ops.specs.View.{block_value}
use Rattle.yd_ops.specs.declared.updates.Block.{Block}
use Rattle.yd_fields.specs.UpdateFields.{fields_of_block, fields_of_blocks}
use Rattle.yd_fields.proofs.WritableLemmas.{each_map_at}
use Rattle.yd_fields.proofs.WritesLemmas.{remain_item}
use Rattle.yd_fields.proofs.update_writing.write_blocks.Goals as goal

pub write_block-requires : goal.write_block-requires
write_block-requires g c = each_map_at IsValidBlock block_value c.args.blocks.now c.loop-block.block-index c.block-item.result c.loop-block-test.true c.block-item.is c.requires

pub loop-block-preserved : goal.loop-block-preserved
loop-block-preserved g c =
    remain_item (λ (bs : List Block). fields_of_blocks (map block_value bs)) (λ (b : Block). fields_of_block (block_value b)) (λ b bs. refl) c.args.blocks.now c.loop-block.block-index c.block-item.result c.loop-block-test.true c.block-item.is c.loop-block.invariant c.in_ok-write_block.ensures
