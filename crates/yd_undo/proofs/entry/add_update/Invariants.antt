use Rattle.std.proofs.Common.{◌≡◌, ◌++◌, map, drop}
use Rattle.yd_ops.specs.View.{block_value}
use Rattle.yd_undo.specs.Entry.{blocks_ids}
use Rattle.yd_undo.proofs.entry.add_update.Given as goal

-- with those of the blocks that are left, all are there
abbrev pub invariant-loop-block : goal.invariant-loop-block
invariant-loop-block l = l.spans.items ++ blocks_ids (map block_value (drop l.block-index l.update.blocks)) ≡ l.initial.spans.items ++ blocks_ids (map block_value l.update.blocks)
