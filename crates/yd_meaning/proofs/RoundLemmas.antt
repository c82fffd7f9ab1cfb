-- Rounds: they grow and come to rest, and the last one is the least set with all that it asks for.
use Rattle.std.proofs.Common.{◌≡◌, ℕ, zero, suc, ◌<◌, true, List, [], ◌∷◌, ◌⊎◌, inl, inr, length, refl, sym, ap, subst, arith}
use Rattle.yd_words.specs.Member.{IsIn}
use Rattle.yd_words.proofs.FilterLemmas.{kept_one, one_kept, length-filter, same_or_more}
use Rattle.yd_ids.specs.declared.id.Id.{Id}
use Rattle.yd_ops.specs.Operation.{Operation}
use Rattle.yd_ops.specs.Received.{has_operation}
use Rattle.yd_ops.proofs.OneOfLemmas.{operation_with, id_is_there}
use Rattle.yd_meaning.specs.Held.{has_all, next_round, round, last_round}
use Rattle.yd_meaning.proofs.HasAllLemmas.{all_has, has_each}

-- ids that stay where operations stay
ids_stay : (before after : List Operation) → ((o : Operation) → IsIn o before → IsIn o after) → (x : Id) → has_operation before x ≡ true →
    has_operation after x ≡ true
ids_stay before after stay x e = let (o, i, g) = operation_with before x e in subst (λ y. has_operation after y ≡ true) g (id_is_there after o (stay o i))

module _ (asks : Operation → List Id) (os : List Operation) where
  -- ---- rounds

  -- a round has what the next one asks for
  pub needs_before : (n : ℕ) (o : Operation) → IsIn o (round asks os (suc n)) → (x : Id) → IsIn x (asks o) → has_operation (round asks os n) x ≡ true
  needs_before n o i x j = all_has (round asks os n) (asks o) (kept_one (λ p. has_all (round asks os n) (asks p)) os o i).0 x j

  pub round_in : (n : ℕ) (o : Operation) → IsIn o (round asks os n) → IsIn o os
  round_in zero o i = absurd i
  round_in (suc n) o i = (kept_one (λ p. has_all (round asks os n) (asks p)) os o i).1

  -- each round has the one before
  pub round_grows : (n : ℕ) (o : Operation) → IsIn o (round asks os n) → IsIn o (round asks os (suc n))
  round_grows zero o i = absurd i
  round_grows (suc n) o i = one_kept (λ p. has_all (round asks os (suc n)) (asks p)) os o
      (has_each (round asks os (suc n)) (asks o) (λ x j. ids_stay (round asks os n) (round asks os (suc n)) (λ p k. round_grows n p k) x (needs_before n o i x j)))
      (round_in (suc n) o i)

  pub ids_grow : (n : ℕ) (x : Id) → has_operation (round asks os n) x ≡ true → has_operation (round asks os (suc n)) x ≡ true
  ids_grow n = ids_stay (round asks os n) (round asks os (suc n)) (round_grows n)

  -- a round is the one before, or longer
  pub same_or_longer : (n : ℕ) → (round asks os n ≡ round asks os (suc n)) ⊎ (length (round asks os n) < length (round asks os (suc n)))
  same_or_longer zero = go (round asks os 1)
    where
      go : (ps : List Operation) → ([] ≡ ps) ⊎ (0 < length ps)
      go [] = inl refl
      go (p ∷ ps) = inr (omega arith)
  same_or_longer (suc n) = same_or_more (λ o. has_all (round asks os n) (asks o)) (λ o. has_all (round asks os (suc n)) (asks o))
      (λ o e. has_each (round asks os (suc n)) (asks o) (λ x j. ids_grow n x (all_has (round asks os n) (asks o) e x j))) os

  -- rounds that are not at rest have more operations than their number
  pub rests_or_long : (n : ℕ) → (round asks os n ≡ round asks os (suc n)) ⊎ (n < length (round asks os (suc n)))
  rests_or_long zero = elim (same_or_longer zero) [ inl e ↦ inl e | inr lt ↦ inr (omega arith) ]
  rests_or_long (suc n) = elim (rests_or_long n) [
    | inl e ↦ inl (ap (next_round asks os) e)
    | inr lt ↦ elim (same_or_longer (suc n)) [ inl e ↦ inl e | inr more ↦ inr (omega arith) ]
  ]

  -- ---- lemmas for callers

  -- one more round changes nothing
  pub next_round-last : next_round asks os (last_round asks os) ≡ last_round asks os
  next_round-last = elim (rests_or_long (length os)) [
    | inl e ↦ sym e
    | inr lt ↦ absurd (omega (arith, length-filter (λ o. has_all (round asks os (length os)) (asks o)) os))
  ]

  -- the last round is of the list
  pub last_in : (o : Operation) → IsIn o (last_round asks os) → IsIn o os
  last_in = round_in (length os)

  -- all that an operation asks for is in the last round
  pub last_asks : (o : Operation) → IsIn o (last_round asks os) → (x : Id) → IsIn x (asks o) → has_operation (last_round asks os) x ≡ true
  last_asks o i = all_has (last_round asks os) (asks o)
      (kept_one (λ p. has_all (last_round asks os) (asks p)) os o (subst (λ ps. IsIn o ps) (sym next_round-last) i)).0

  -- an operation is in the last round, where all that it asks for is
  pub asks_last : (o : Operation) → IsIn o os → ((x : Id) → IsIn x (asks o) → has_operation (last_round asks os) x ≡ true) → IsIn o (last_round asks os)
  asks_last o i f = subst (λ ps. IsIn o ps) next_round-last (one_kept (λ p. has_all (last_round asks os) (asks p)) os o (has_each (last_round asks os) (asks o) f) i)

  -- what is true of an operation once it is true of all that it asks for is true of the last round
  pub last_least : (P : Id → Type 0) → ((o : Operation) → IsIn o os → ((x : Id) → IsIn x (asks o) → P x) → P o.id) →
      (o : Operation) → IsIn o (last_round asks os) → P o.id
  last_least P step = by_rounds (length os)
    where
      by_rounds : (n : ℕ) (o : Operation) → IsIn o (round asks os n) → P o.id
      by_rounds zero o i = absurd i
      by_rounds (suc n) o i = step o (round_in (suc n) o i)
          (λ x j. let (p, k, g) = operation_with (round asks os n) x (needs_before n o i x j) in subst P g (by_rounds n p k))
