use Rattle.std.proofs.Common.{ℕ, length, map, take}
use Rattle.std.specs.Vec.Iter.{into_iter_items, into_iter_len}
use Rattle.yd_ops.specs.Operation.{operations_of_blocks}
use Rattle.yd_ops.specs.View.{block_value}
use Rattle.yd_ops.specs.Received.{groups_of_blocks}
use Rattle.yd_entries.specs.Entries.{operations_in}
use Rattle.yd_entries.specs.Lowering.{IsBacked}
use Rattle.yd_received.specs.Structs.{KeepsToLower}
use Rattle.yd_received.proofs.RestLemmas.{IsRest}
use Rattle.yd_received.proofs.SequenceLemmas.{IsTakenIn}
use Rattle.yd_received.proofs.structs.take_blocks.Given as goal

abbrev pub invariant-loop-block : goal.invariant-loop-block
invariant-loop-block l = (n : ℕ) × IsRest l.fn.blocks.items n (into_iter_items l.block-iterator) (into_iter_len l.block-iterator)
    × IsTakenIn l.fn.runs.items l.fn.taken l.runs.items l.taken (groups_of_blocks (map block_value (take n l.fn.blocks.items)))
    (operations_of_blocks (map block_value (take n l.fn.blocks.items))) l.brings
    × IsBacked (length l.fn.runs.items) l.fn.before l.fn.taken l.before l.taken
    × KeepsToLower l.fn.before l.before (operations_of_blocks (map block_value (take n l.fn.blocks.items))) (operations_in l.fn.runs.items l.fn.taken)
