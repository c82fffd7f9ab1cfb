use Rattle.std.proofs.Common.{◌≡◌, ◌++◌, map, drop}
use Rattle.yd_ops.specs.View.{block_value}
use Rattle.yd_ops.specs.Deletes.{blocks_spans}
use Rattle.yd_merge.proofs.naming.note_update.Given as goal

-- with those of the blocks that are left, all of the blocks are noted
abbrev pub invariant-loop-block : goal.invariant-loop-block
invariant-loop-block l = l.spans.items ++ blocks_spans (map block_value (drop l.block-index l.update.blocks)) ≡ l.initial.spans.items ++ blocks_spans (map block_value l.update.blocks)
