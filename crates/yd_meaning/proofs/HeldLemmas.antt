-- What is held: the least set with all that it needs.
use Rattle.std.proofs.Common.{◌≡◌, true, List, Some, sym, ◌∙◌, subst}
use Rattle.std.specs.Prelude.{Bool, filter}
use Rattle.yd_words.specs.Member.{IsIn}
use Rattle.yd_words.proofs.TestLemmas.{one_answer}
use Rattle.yd_words.proofs.FilterLemmas.{filter-all, filter_alike}
use Rattle.yd_ids.specs.declared.id.Id.{Id}
use Rattle.yd_ops.specs.Operation.{Operation}
use Rattle.yd_ops.specs.Received.{has_operation, IsWritten}
use Rattle.yd_ops.proofs.OneOfLemmas.{operation_with, id_is_there}
use Rattle.yd_meaning.specs.Held.{item_carried, needs, has_all, next_round, held_set}
use Rattle.yd_meaning.proofs.HasAllLemmas.{all_has, has_each}
use Rattle.yd_meaning.proofs.RowLemmas.{written_distinct, one_operation}
use Rattle.yd_meaning.proofs.NeedLemmas.{left_needed, right_needed, item_needed}
use Rattle.yd_meaning.proofs.RoundLemmas.{next_round-last, last_in, last_asks, asks_last, last_least}

module _ (os : List Operation) where
  -- one more round changes nothing
  pub next_round-held : next_round needs os (held_set os) ≡ held_set os
  next_round-held = next_round-last needs os

  -- what is held is received
  pub held_in : (o : Operation) → IsIn o (held_set os) → IsIn o os
  held_in = last_in needs os

  -- all that a held operation needs is held
  pub held_needs : (o : Operation) → IsIn o (held_set os) → (x : Id) → IsIn x (needs o) → has_operation (held_set os) x ≡ true
  held_needs = last_asks needs os

  -- what is received is held, where all that it needs is
  pub needs_held : (o : Operation) → IsIn o os → ((x : Id) → IsIn x (needs o) → has_operation (held_set os) x ≡ true) → IsIn o (held_set os)
  needs_held = asks_last needs os

  -- what is true of an operation once it is true of its needs is true of all that is held
  pub held_least : (P : Id → Type 0) → ((o : Operation) → IsIn o os → ((x : Id) → IsIn x (needs o) → P x) → P o.id) →
      (o : Operation) → IsIn o (held_set os) → P o.id
  held_least = last_least needs os

  -- the origins of a held operation are held, and so is the item of the list that it carries
  pub held_left : (o : Operation) → IsIn o (held_set os) → (y : Id) → o.left_origin ≡ Some y → has_operation (held_set os) y ≡ true
  held_left o i y e = held_needs o i y (left_needed o y e)

  pub held_right : (o : Operation) → IsIn o (held_set os) → (y : Id) → o.right_origin ≡ Some y → has_operation (held_set os) y ≡ true
  held_right o i y e = held_needs o i y (right_needed o y e)

  pub held_carried : (o : Operation) → IsIn o (held_set os) → (y : Id) → item_carried o.list ≡ Some y → has_operation (held_set os) y ≡ true
  held_carried o i y e = held_needs o i y (item_needed o y e)

  -- a test that held operations alone pass, and that each passes whose needs pass it, tells what is held
  pub held_set-test : (test : Id → Bool) → ((o : Operation) → IsIn o os → test o.id ≡ true → IsIn o (held_set os)) →
      ((o : Operation) → IsIn o os → ((x : Id) → IsIn x (needs o) → test x ≡ true) → test o.id ≡ true) →
      held_set os ≡ filter (λ o. test o.id) os
  held_set-test test sound complete = sym next_round-held ∙ filter_alike (λ o. has_all (held_set os) (needs o)) (λ o. test o.id) os
      (λ o i. one_answer (has_all (held_set os) (needs o)) (test o.id) ((λ e. e), (λ e. e)) (
        (λ e. has_each (held_set os) (needs o) (held_needs o (sound o i e))),
        (λ e. held_least (λ x. test x ≡ true) complete o (needs_held o i (all_has (held_set os) (needs o) e))),
      ))

-- ---- lemmas for callers, of two sets

-- what is held stays held when more is received
pub held_id_grows : (os more : List Operation) → ((o : Operation) → IsIn o os → IsIn o more) → (x : Id) → has_operation (held_set os) x ≡ true →
    has_operation (held_set more) x ≡ true
held_id_grows os more stay x e = let (p, i, g) = operation_with (held_set os) x e in subst (λ y. has_operation (held_set more) y ≡ true) g
    (held_least os (λ y. has_operation (held_set more) y ≡ true) (λ o j f. id_is_there (held_set more) o (needs_held more o (stay o j) f)) p i)

pub held_grows : (os more : List Operation) → ((o : Operation) → IsIn o os → IsIn o more) → (o : Operation) → IsIn o (held_set os) →
    IsIn o (held_set more)
held_grows os more stay o i = needs_held more o (stay o (held_in os o i)) (λ x j. held_id_grows os more stay x (held_needs os o i x j))

-- some held operations with all that they need are what is held of themselves
pub held_set-part : (os part : List Operation) → IsWritten os → ((o : Operation) → IsIn o part → IsIn o (held_set os)) →
    ((o : Operation) → IsIn o part → (x : Id) → IsIn x (needs o) → has_operation part x ≡ true) → held_set part ≡ part
held_set-part os part w within closed = sym (next_round-held part) ∙ filter-all (λ o. has_all (held_set part) (needs o)) part
    (λ o i. has_each (held_set part) (needs o) (λ x j. stays x (closed o i x j)))
  where
    stays_one : (o : Operation) → IsIn o (held_set os) → has_operation part o.id ≡ true → has_operation (held_set part) o.id ≡ true
    stays_one = held_least os (λ x. has_operation part x ≡ true → has_operation (held_set part) x ≡ true) (λ o i stay e.
        let (p, j, g) = operation_with part o.id e in
        let one : p ≡ o = one_operation os (written_distinct os w) p o (held_in os p (within p j)) i g in
        let own : IsIn o part = subst (λ q. IsIn q part) one j in
        id_is_there (held_set part) o (needs_held part o own (λ x k. stay x k (closed o own x k))))

    stays : (x : Id) → has_operation part x ≡ true → has_operation (held_set part) x ≡ true
    stays x e = let (p, i, g) = operation_with part x e in subst (λ y. has_operation (held_set part) y ≡ true) g (stays_one p (within p i) (id_is_there part p i))
