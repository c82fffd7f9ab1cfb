use Rattle.std.proofs.Common.{◌++◌, map}
use Rattle.std.specs.Vec.Iter.{into_iter_items, into_iter_len}
use Rattle.yd_ops.specs.View.{block_value}
use Rattle.yd_merge.specs.Joining.{BlocksSaySame}
use Rattle.yd_merge.proofs.joining.join_blocks.Given as goal

abbrev pub invariant-loop-block : goal.invariant-loop-block
invariant-loop-block l = BlocksSaySame (map block_value l.fn.blocks) (map block_value l.joined ++ map block_value (into_iter_items l.left))

abbrev pub decreases-loop-block : goal.decreases-loop-block
decreases-loop-block l = into_iter_len l.left
