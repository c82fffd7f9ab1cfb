-- The reach: a client's operations have all clocks below it, and none has it.
use Rattle.std.specs.Prelude.{nat_eq, if◌then◌else◌}
use Rattle.std.proofs.Common.{◌≡◌, ℕ, zero, suc, ◌+◌, ◌<◌, ◌≤◌, max, Bool, true, false, List, [], ◌∷◌, ◌⊎◌, map, inl, inr, refl, sym, ap, ◌∙◌, subst, arith, tests}
use Rattle.std.proofs.lemmas.Bool.{cases_Bool}
use Rattle.yd_words.specs.Each.{Each}
use Rattle.yd_words.specs.Member.{IsIn}
use Rattle.yd_words.proofs.TestLemmas.{split}
use Rattle.yd_ids.specs.Id.{IsClock}
use Rattle.yd_ids.specs.Vector.{IsEntry, IsVector, clock_of, greatest_clock}
use Rattle.yd_ids.specs.declared.id.Client.{Client}
use Rattle.yd_ids.specs.declared.id.Id.{Id}
use Rattle.yd_ids.proofs.EntriesLemmas.{entries_greatest, entries_vector}
use Rattle.yd_ops.specs.Operation.{Operation, operations_of}
use Rattle.yd_ops.specs.Valid.{IsValidUpdate}
use Rattle.yd_ops.specs.Value.{UpdateValue}
use Rattle.yd_ops.specs.Received.{has_operation}
use Rattle.yd_ops.proofs.OneOfLemmas.{none_has}
use Rattle.yd_grouping.specs.Groupable.{IsValidOperation}
use Rattle.yd_grouping.specs.Reach.{clock_behind, first_missing, reach, reach_of}
use Rattle.yd_grouping.proofs.ValidLemmas.{operations_valid}

abbrev id_at : ℕ → ℕ → Id
id_at client clock = record { client = record { 0 = client }; clock = clock }

below_behind : (os : List Operation) (client : ℕ) (o : Operation) → IsIn o os → o.id.client.0 ≡ client → o.id.clock < clock_behind os client
below_behind [] client o i e = absurd i
below_behind (p ∷ ps) client o (inl f) e = go (nat_eq p.id.client.0 client) refl
  where
    same : p.id.client.0 ≡ client
    same = ap (λ (q : Operation). q.id.client.0) (sym f) ∙ e

    go : (t : Bool) → nat_eq p.id.client.0 client ≡ t → o.id.clock < (if t then max (p.id.clock + 1) (clock_behind ps client) else clock_behind ps client)
    go true g = omega (arith, ap (λ (q : Operation). q.id.clock) f)
    go false g = absurd (differs same g)
      where
        differs : p.id.client.0 ≡ client → nat_eq p.id.client.0 client ≡ false → ⊥
        differs a b = grind (arith, tests)
below_behind (p ∷ ps) client o (inr i) e = go (nat_eq p.id.client.0 client) (below_behind ps client o i e)
  where
    go : (t : Bool) → o.id.clock < clock_behind ps client → o.id.clock < (if t then max (p.id.clock + 1) (clock_behind ps client) else clock_behind ps client)
    go true lt = omega (arith, lt)
    go false lt = lt

none_behind : (os : List Operation) (client : ℕ) → has_operation os (id_at client (clock_behind os client)) ≡ false
none_behind os client = none_has os (id_at client (clock_behind os client)) (λ o i e.
    absurd (omega (arith, below_behind os client o i (ap (λ (x : Id). x.client.0) e), ap (λ (x : Id). x.clock) e)))

-- what the search finds
abbrev IsFound : List Operation → ℕ → ℕ → ℕ → Type 0
IsFound os client clock found = (has_operation os (id_at client found) ≡ false) × ((k : ℕ) → clock ≤ k → k < found → has_operation os (id_at client k) ≡ true)

look : (os : List Operation) (client clock n : ℕ) → has_operation os (id_at client (clock + n)) ≡ false → IsFound os client clock (first_missing os client clock n)
look os client clock zero none = (subst (λ k. has_operation os (id_at client k) ≡ false) same none, (λ k le lt. absurd (omega (arith, le, lt))))
  where
    same : clock + 0 ≡ clock
    same = omega arith
look os client clock (suc n) none = elim (cases_Bool (has_operation os (id_at client clock))) [
  | inl there ↦ rw there (with_first there (look os client (suc clock) n (subst (λ k. has_operation os (id_at client k) ≡ false) next none)))
  | inr none ↦ rw none (none, λ k le lt. absurd (omega (arith, le, lt)))
]
  where
    next : clock + suc n ≡ suc clock + n
    next = omega arith

    with_first : has_operation os (id_at client clock) ≡ true → IsFound os client (suc clock) (first_missing os client (suc clock) n) →
        IsFound os client clock (first_missing os client (suc clock) n)
    with_first there found = (
      found.0,
      λ k le lt. elim (split k clock) [
        | inl at_most ↦ let same : clock ≡ k = omega (arith, at_most, le) in subst (λ m. has_operation os (id_at client m) ≡ true) same there
        | inr behind ↦ found.1 k (omega (arith, behind)) lt
      ],
    )

-- ---- lemmas for callers

-- each clock below the reach is there, and the reach is not
pub reach_is : (os : List Operation) (client : ℕ) → (has_operation os (id_at client (reach os client)) ≡ false) ×
    ((clock : ℕ) → clock < reach os client → has_operation os (id_at client clock) ≡ true)
reach_is os client = let found = look os client 0 (clock_behind os client) (subst (λ k. has_operation os (id_at client k) ≡ false) same (none_behind os client)) in
    (found.0, λ clock lt. found.1 clock (omega arith) lt)
  where
    same : clock_behind os client ≡ 0 + clock_behind os client
    same = omega arith

missing_within : (os : List Operation) (client clock n : ℕ) → first_missing os client clock n ≤ clock + n
missing_within os client clock zero = omega arith
missing_within os client clock (suc n) = go (has_operation os (id_at client clock)) (missing_within os client (suc clock) n)
  where
    go : (t : Bool) → first_missing os client (suc clock) n ≤ suc clock + n → (if t then first_missing os client (suc clock) n else clock) ≤ clock + suc n
    go true le = omega (arith, le)
    go false le = omega arith

behind_is_clock : (os : List Operation) (client : ℕ) → Each IsValidOperation os → IsClock (clock_behind os client)
behind_is_clock [] client each = omega arith
behind_is_clock (o ∷ os) client each = go (nat_eq o.id.client.0 client) (behind_is_clock os client each.1)
  where
    go : (t : Bool) → IsClock (clock_behind os client) → IsClock (if t then max (o.id.clock + 1) (clock_behind os client) else clock_behind os client)
    go true is = omega (arith, is, each.0.end)
    go false is = is

reach_is_clock : (os : List Operation) (client : ℕ) → Each IsValidOperation os → IsClock (reach os client)
reach_is_clock os client each = omega (arith, missing_within os client 0 (clock_behind os client), behind_is_clock os client each)

-- ---- the vector

abbrev entries : List Operation → List Operation → List (Client × ℕ)
entries os ps = map (λ (o : Operation). (o.id.client, reach os o.id.client.0)) ps

are_entries : (os ps : List Operation) → Each IsValidOperation os → Each IsValidOperation ps → Each IsEntry (entries os ps)
are_entries os [] each also = tt
are_entries os (o ∷ ps) each also = (record { client = also.0.client; clock = reach_is_clock os o.id.client.0 each }, are_entries os ps each also.1)

-- what the entries have of a client is its reach, or nothing where none is there
greatest : (os ps : List Operation) (client : ℕ) → (greatest_clock (entries os ps) client ≡ reach os client) ⊎
    ((greatest_clock (entries os ps) client ≡ 0) × (clock_behind ps client ≡ 0))
greatest os [] client = inr (refl, refl)
greatest os (o ∷ ps) client = go (nat_eq o.id.client.0 client) refl (greatest os ps client)
  where
    go : (t : Bool) → nat_eq o.id.client.0 client ≡ t → (greatest_clock (entries os ps) client ≡ reach os client) ⊎
        ((greatest_clock (entries os ps) client ≡ 0) × (clock_behind ps client ≡ 0)) →
        ((if t then max (reach os o.id.client.0) (greatest_clock (entries os ps) client) else greatest_clock (entries os ps) client) ≡ reach os client)
        ⊎ (((if t then max (reach os o.id.client.0) (greatest_clock (entries os ps) client) else greatest_clock (entries os ps) client) ≡ 0)
        × ((if t then max (o.id.clock + 1) (clock_behind ps client) else clock_behind ps client) ≡ 0))
    go false e rest = rest
    go true e (inl same) = inl (omega (arith, ap (reach os) is_client, same))
      where
        is_client : o.id.client.0 ≡ client
        is_client = grind (arith, tests)
    go true e (inr none) = inl (omega (arith, ap (reach os) is_client, none.0))
      where
        is_client : o.id.client.0 ≡ client
        is_client = grind (arith, tests)

clock-reach : (update : UpdateValue) → IsValidUpdate update → (client : ℕ) → clock_of (reach_of update) client ≡ reach (operations_of update) client
clock-reach update valid client = entries_greatest (entries os os) (are_entries os os each each) client ∙ go (greatest os os client)
  where
    os : List Operation
    os = operations_of update

    each : Each IsValidOperation (operations_of update)
    each = operations_valid update valid

    go : (greatest_clock (entries (operations_of update) (operations_of update)) client ≡ reach (operations_of update) client)
        ⊎ ((greatest_clock (entries (operations_of update) (operations_of update)) client ≡ 0) × (clock_behind (operations_of update) client ≡ 0)) →
        greatest_clock (entries (operations_of update) (operations_of update)) client ≡ reach (operations_of update) client
    go (inl e) = e
    go (inr none) = omega (arith, none.0, none.1, missing_within (operations_of update) client 0 (clock_behind (operations_of update) client))

pub reach_vector : (update : UpdateValue) → IsValidUpdate update → IsVector (reach_of update)
reach_vector update valid = entries_vector (entries (operations_of update) (operations_of update)) (are_entries (operations_of update) (operations_of update)
    (operations_valid update valid) (operations_valid update valid))

pub reach_missing : (update : UpdateValue) → IsValidUpdate update → (client : ℕ) → has_operation (operations_of update) (id_at client (clock_of (reach_of update) client)) ≡ false
reach_missing update valid client = subst (λ k. has_operation (operations_of update) (id_at client k) ≡ false) (sym (clock-reach update valid client))
    (reach_is (operations_of update) client).0

pub reach_there : (update : UpdateValue) → IsValidUpdate update → (client clock : ℕ) → clock < clock_of (reach_of update) client →
    has_operation (operations_of update) (id_at client clock) ≡ true
reach_there update valid client clock lt = (reach_is (operations_of update) client).1 clock (omega (arith, lt, clock-reach update valid client))
