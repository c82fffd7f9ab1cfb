-- After a reply: each id of the answerer is there, as it is below the vector, or came.
use Rattle.std.proofs.Common.{◌≡◌, ◌<◌, ◌≤◌, ℕ, true, ◌⊎◌, inl, inr, refl, sym, subst, arith}
use Rattle.yd_words.specs.Member.{IsIn}
use Rattle.yd_words.proofs.TestLemmas.{split}
use Rattle.yd_ids.specs.declared.id.Id.{Id}
use Rattle.yd_ids.specs.Set.{HasId}
use Rattle.yd_ids.proofs.UnionLemmas.{union_ids}
use Rattle.yd_ops.specs.Operation.{Operation, operations_of}
use Rattle.yd_ops.specs.Value.{UpdateValue}
use Rattle.yd_ops.specs.Received.{has_operation, groups_of, Received, received_after}
use Rattle.yd_ops.specs.Deletes.{deletes_of}
use Rattle.yd_ops.specs.ReceivedLaw.{IsReceived, IsCovered}
use Rattle.yd_ops.proofs.OneOfLemmas.{operation_with, id_there, ids_stay}
use Rattle.yd_ops.proofs.GroupLemmas.{update_groups}
use Rattle.yd_ops.proofs.CoveringLemmas.{covered_groups, groups_cover}
use Rattle.yd_meaning.specs.Held.{held_set, held_clock}
use Rattle.yd_meaning.specs.Law.{IsCompleted}
use Rattle.yd_meaning.proofs.HeldLemmas.{held_in}
use Rattle.yd_meaning.proofs.VectorLemmas.{held_below}

module _ (other r : Received) (update : UpdateValue) (vector : ℕ → ℕ) (is : IsReceived r)
    (sent : (o : Operation) → IsIn o other.operations → vector o.id.client.0 ≤ o.id.clock → IsIn o (operations_of update)) where
  comes : (o : Operation) → IsIn o (operations_of update) → IsCovered (received_after r update).operations o
  comes o i = groups_cover (groups_of update) r.operations is.written o (subst (λ os. IsIn o os) (sym (update_groups update)) i)

  covered_there : (o : Operation) → IsCovered (received_after r update).operations o → has_operation (received_after r update).operations o.id ≡ true
  covered_there o (q, i, id, le) = id_there (received_after r update).operations q o.id i id

  -- an id that was there is there
  stays : (x : Id) → has_operation r.operations x ≡ true → has_operation (received_after r update).operations x ≡ true
  stays x e = let (o, i, f) = operation_with r.operations x e in
      subst (λ y. has_operation (received_after r update).operations y ≡ true) f
      (covered_there o (covered_groups (groups_of update) r.operations o is.written (o, i, refl, omega arith)))

  pub completed : ((x : Id) → HasId other.deletes x → HasId (deletes_of update) x) → ((client : ℕ) → vector client ≤ held_clock (held_set r.operations) client) →
      IsCompleted other (received_after r update) vector
  completed deletes low = record {
    ids = λ x e. let (o, i, f) = operation_with other.operations x e in subst (λ y. has_operation (received_after r update).operations y ≡ true) f (there o i (split (vector o.id.client.0) o.id.clock));
    deletes = λ x h. (union_ids r.deletes (deletes_of update) x).1 (inr (deletes x h));
    no_fuller = λ o i le. comes o (sent o i le);
  }
    where
      there : (o : Operation) → IsIn o other.operations → (vector o.id.client.0 ≤ o.id.clock) ⊎ (o.id.clock < vector o.id.client.0) →
          has_operation (received_after r update).operations o.id ≡ true
      there o i (inl le) = covered_there o (comes o (sent o i le))
      there o i (inr lt) = stays o.id (ids_stay (held_set r.operations) r.operations o.id (held_in r.operations)
          ((held_below r.operations is.written o.id.client o.id.clock).1 (omega (arith, lt, low o.id.client.0))))
