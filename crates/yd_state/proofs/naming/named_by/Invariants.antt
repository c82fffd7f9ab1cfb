use Rattle.std.proofs.Common.{◌≡◌, map, drop}
use Rattle.yd_ids.specs.Set.{union_of}
use Rattle.yd_ops.specs.View.{block_value, update_value}
use Rattle.yd_ops.specs.Deletes.{blocks_spans, deletes_of}
use Rattle.yd_state.proofs.naming.named_by.Given as goal

-- adding what the blocks that are left spell gives all of it
abbrev pub invariant-loop-block : goal.invariant-loop-block
invariant-loop-block l = union_of (blocks_spans (map block_value (drop l.block-index l.update.blocks))) l.named ≡ deletes_of (update_value l.update)
