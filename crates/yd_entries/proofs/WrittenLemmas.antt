-- What was taken, as operations: which ids they have, and that they are in the order of writing.
use Rattle.std.proofs.Common.{◌≡◌, ℕ, ◌+◌, ◌<◌, ◌≤◌, List, [], ◌∷◌, inl, inr, ap, arith}
use Rattle.std.specs.Prelude.{filter}
use Rattle.yd_words.specs.Each.{Each}
use Rattle.yd_words.specs.Member.{IsIn}
use Rattle.yd_words.proofs.MemberLemmas.{in_parts}
use Rattle.yd_ids.specs.declared.id.Id.{Id}
use Rattle.yd_ops.specs.declared.runs.Run.{Run}
use Rattle.yd_ops.specs.Operation.{Operation}
use Rattle.yd_ops.specs.Received.{IsWritten}
use Rattle.yd_entries.specs.declared.entry.Entry.{Entry}
use Rattle.yd_entries.specs.Entries.{operations_of_taken, operations_in, IsTakenOf, AreTaken, is_held, held_in}
use Rattle.yd_entries.proofs.EntriesLemmas.{each_kept, order_kept}
use Rattle.yd_entries.proofs.TakenLemmas.{taken_id, in_written}

-- ---- operations of entries

-- what is true of the operations of each entry is true of all operations
pub each_operation : (runs : List Run) (P : Operation → Type 0) (ts : List Entry) →
    Each (λ (t : Entry). (o : Operation) → IsIn o (operations_of_taken runs t) → P o) ts → (o : Operation) → IsIn o (operations_in runs ts) → P o
each_operation runs P [] each o i = absurd i
each_operation runs P (t ∷ ts) each o i = elim (in_parts o (operations_of_taken runs t) (operations_in runs ts) i) [
  | inl j ↦ each.0 o j
  | inr j ↦ each_operation runs P ts each.1 o j
]

-- ---- the ids of units in a row

-- the id is one of so many clocks from an id on
pub record IsFrom (id : Id) (count : ℕ) (x : Id) : Type 0 where
  pub client : x.client ≡ id.client
  pub low : id.clock ≤ x.clock
  pub high : x.clock < id.clock + count

-- ---- lemmas for callers

-- the ids of its operations are those of its units
pub taken_from : (runs : List Run) (t : Entry) → IsTakenOf runs t → (o : Operation) → IsIn o (operations_of_taken runs t) → IsFrom t.id t.len o.id
taken_from runs t is o i = let (k, lt, e) = taken_id runs t o is i in
    record { client = ap (λ x. x.client) e; low = omega (arith, ap (λ x. x.clock) e); high = omega (arith, ap (λ x. x.clock) e) }

-- what was taken is in the order of writing
pub taken_written : (runs : List Run) (taken : List Entry) → AreTaken runs taken → IsWritten (operations_in runs taken)
taken_written runs taken are = in_written runs taken are.each are.in_order

-- and so is what is held of it
pub held_written : (runs : List Run) (taken : List Entry) → AreTaken runs taken → IsWritten (held_in runs taken)
held_written runs taken are = in_written runs (filter is_held taken) (each_kept is_held (IsTakenOf runs) taken are.each)
    (order_kept is_held taken are.in_order)
