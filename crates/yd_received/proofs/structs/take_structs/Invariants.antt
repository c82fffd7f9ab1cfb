use Rattle.std.proofs.Common.{◌≡◌, ◌+◌, ◌≤◌, ℕ, length, map, take, drop}
use Rattle.std.specs.Vec.Iter.{into_iter_items, into_iter_len}
use Rattle.yd_ops.specs.Operation.{operations_of_structs}
use Rattle.yd_ops.specs.View.{struct_value}
use Rattle.yd_ops.specs.Received.{groups_of_structs}
use Rattle.yd_entries.specs.Entries.{operations_in}
use Rattle.yd_entries.specs.Lowering.{IsBacked}
use Rattle.yd_received.specs.Structs.{KeepsToLower}
use Rattle.yd_received.proofs.RestLemmas.{IsRest}
use Rattle.yd_received.proofs.SequenceLemmas.{IsTakenIn, clocks_of_all}
use Rattle.yd_received.proofs.structs.take_structs.Given as goal

abbrev pub invariant-loop-entry : goal.invariant-loop-entry
invariant-loop-entry l = (n : ℕ) × IsRest l.fn.structs.items n (into_iter_items l.entry-iterator) (into_iter_len l.entry-iterator)
    × IsTakenIn l.fn.runs.items l.fn.taken l.runs.items l.taken (groups_of_structs l.first.client l.first.clock (map struct_value (take n l.fn.structs.items)))
    (operations_of_structs l.first.client l.first.clock (map struct_value (take n l.fn.structs.items))) l.brings
    × IsBacked (length l.fn.runs.items) l.fn.before l.fn.taken l.before l.taken
    × (l.clock ≡ l.first.clock + clocks_of_all (map struct_value (take n l.fn.structs.items)))
    × KeepsToLower l.fn.before l.before (operations_of_structs l.first.client l.first.clock (map struct_value (take n l.fn.structs.items))) (operations_in l.fn.runs.items l.fn.taken)
