-- The vector of many entries: it has the greatest clock of each client.
use Rattle.std.proofs.Common.{◌≡◌, ℕ, ◌+◌, ◌<◌, ◌≤◌, max, Bool, true, false, cond, List, [], ◌∷◌, length, get_or, drop, sym, ◌∙◌, subst, arith, nat_eq, refl}
use Rattle.std.specs.List.Sorted.{IsPermutation}
use Rattle.std.proofs.lemmas.Bool.{eqb-true, eqb-false}
use Rattle.std.proofs.lemmas.List.{drop_more, drop_all}
use Rattle.std.proofs.lemmas.List.Sorted.{IsPermutation-sym}
use Rattle.yd_words.specs.Each.{Each}
use Rattle.yd_words.proofs.EachLemmas.{each_weaker, each_permuted}
use Rattle.yd_ids.specs.Vector.{clock_of, IsVector, IsEntry, RaisesOnly, with_clock, vector_of_entries, greatest_clock, HasGreatest}
use Rattle.yd_ids.proofs.MaximumLemmas.{with_this, with_other, with_vector}
use Rattle.yd_ids.proofs.VectorLemmas.{vectors_same, above_none, Entry}

-- ---- the vector of entries

-- it is a vector
pub entries_vector : (es : List Entry) → Each IsEntry es → IsVector (vector_of_entries es)
entries_vector [] are = tt
entries_vector (e ∷ es) are = with_vector e (vector_of_entries es) are.0.client are.0.clock (entries_vector es are.1)

-- it has the greatest clocks
pub entries_greatest : (es : List Entry) → Each IsEntry es → HasGreatest (vector_of_entries es) es
entries_greatest [] are c = omega arith
entries_greatest (e ∷ es) are c = by_client (nat_eq e.0.0 c) refl (entries_greatest es are.1 c)
  where
    by_client : (this : Bool) → nat_eq e.0.0 c ≡ this → clock_of (vector_of_entries es) c ≡ greatest_clock es c →
        clock_of (with_clock e (vector_of_entries es)) c ≡ cond this (max e.1 (greatest_clock es c)) (greatest_clock es c)
    by_client true is rest =
        let here : clock_of (with_clock e (vector_of_entries es)) c ≡ max (clock_of (vector_of_entries es) c) e.1 =
        subst (λ z. clock_of (with_clock e (vector_of_entries es)) z ≡ max (clock_of (vector_of_entries es) z) e.1) (eqb-true e.0.0 c is) (with_this e (vector_of_entries es) (entries_vector es are.1)) in
        omega arith
    by_client false is rest = with_other e (vector_of_entries es) c (λ same. eqb-false e.0.0 c is (sym same)) ∙ rest

-- a vector with the greatest clocks is the vector of the entries
pub entries_alone : (es vs : List Entry) → Each IsEntry es → IsVector vs → HasGreatest vs es → vs ≡ vector_of_entries es
entries_alone es vs are v greatest = vectors_same vs (vector_of_entries es) v (entries_vector es are) (λ c. greatest c ∙ sym (entries_greatest es are c))

-- ---- in any order

-- the entry's clock is not above this one, if it is the client's
abbrev IsAtMost : ℕ → ℕ → Entry → Type 0
IsAtMost c most e = e.0.0 ≡ c → e.1 ≤ most

-- no entry is above the greatest
all_at_most : (es : List Entry) (c : ℕ) → Each (IsAtMost c (greatest_clock es c)) es
all_at_most [] c = tt
all_at_most (e ∷ es) c = by_client (nat_eq e.0.0 c) refl (all_at_most es c)
  where
    by_client : (this : Bool) → nat_eq e.0.0 c ≡ this → Each (IsAtMost c (greatest_clock es c)) es → Each (IsAtMost c (cond this (max e.1 (greatest_clock es c)) (greatest_clock es c))) (e ∷ es)
    by_client true is rest = ((λ same. omega arith), each_weaker (IsAtMost c (greatest_clock es c)) (IsAtMost c (max e.1 (greatest_clock es c))) (λ f most same. omega (arith, most same)) es rest)
    by_client false is rest = ((λ same. absurd (eqb-false e.0.0 c is same)), rest)

-- what no entry is above, the greatest is not above
greatest_at_most : (es : List Entry) (c most : ℕ) → Each (IsAtMost c most) es → greatest_clock es c ≤ most
greatest_at_most [] c most all = omega arith
greatest_at_most (e ∷ es) c most all = by_client (nat_eq e.0.0 c) refl (greatest_at_most es c most all.1)
  where
    by_client : (this : Bool) → nat_eq e.0.0 c ≡ this → greatest_clock es c ≤ most → cond this (max e.1 (greatest_clock es c)) (greatest_clock es c) ≤ most
    by_client true is rest = omega (arith, all.0 (eqb-true e.0.0 c is))
    by_client false is rest = rest

-- another order has the same greatest clocks
pub greatest_permuted : (es fs : List Entry) (c : ℕ) → IsPermutation es fs → greatest_clock es c ≡ greatest_clock fs c
greatest_permuted es fs c p =
    let low = greatest_at_most es c (greatest_clock fs c) (each_permuted (IsAtMost c (greatest_clock fs c)) fs es (IsPermutation-sym es fs p) (all_at_most fs c)) in
    let high = greatest_at_most fs c (greatest_clock es c) (each_permuted (IsAtMost c (greatest_clock es c)) es fs p (all_at_most es c)) in
    omega arith

-- the vector of entries in another order is the same
pub entries_permuted : (es fs : List Entry) → Each IsEntry es → IsPermutation es fs → vector_of_entries es ≡ vector_of_entries fs
entries_permuted es fs are p =
    entries_alone fs (vector_of_entries es) (each_permuted IsEntry es fs p are) (entries_vector es are) (λ c. entries_greatest es are c ∙ greatest_permuted es fs c p)

-- ---- a vector's own entries

-- the clients and clocks of a vector are in range
pub vector_entries : (vs : List Entry) → IsVector vs → Each IsEntry vs
vector_entries [] v = tt
vector_entries (e ∷ vs) v = (record { client = v.0; clock = v.2 }, vector_entries vs v.4)

-- a vector has its own greatest clocks
vector_greatest : (vs : List Entry) → IsVector vs → HasGreatest vs vs
vector_greatest [] v c = omega arith
vector_greatest (e ∷ vs) v c = by_client (nat_eq e.0.0 c) refl (vector_greatest vs v.4 c)
  where
    by_client : (this : Bool) → nat_eq e.0.0 c ≡ this → clock_of vs c ≡ greatest_clock vs c → cond this e.1 (clock_of vs c) ≡ cond this (max e.1 (greatest_clock vs c)) (greatest_clock vs c)
    by_client true is rest =
        let same : e.0.0 ≡ c = eqb-true e.0.0 c is in
        let none = above_none vs c (each_weaker (λ later. e.0.0 < later.0.0) (λ later. c < later.0.0) (λ later more. omega arith) vs v.3) in
        omega arith
    by_client false is rest = rest

-- a vector makes itself
pub vector_of_vector : (vs : List Entry) → IsVector vs → vector_of_entries vs ≡ vs
vector_of_vector vs v = sym (entries_alone vs vs (vector_entries vs v) v (vector_greatest vs v))

-- ---- one raise after another

-- the vector so far, of which some entries are still to come
pub record IsRaising (entries vector : List Entry) (i : ℕ) : Type 0 where
  pub vector_so_far : IsVector vector
  pub clocks : (client : ℕ) → max (clock_of vector client) (greatest_clock (drop i entries) client) ≡ greatest_clock entries client

-- no entry has come
pub raising_begins : (entries : List Entry) → IsRaising entries [] 0
raising_begins entries = record { vector_so_far = tt; clocks = λ c. omega arith }

-- one more entry
pub raising_raises : (entries old new : List Entry) (i : ℕ) (d : Entry) → i < length entries → IsRaising entries old i → IsVector new → RaisesOnly old new (get_or entries i d).0.0 (get_or entries i d).1 → IsRaising entries new (i + 1)
raising_raises entries old new i d lt before v raises = record { vector_so_far = v; clocks = λ c. next c }
  where
    e : Entry
    e = get_or entries i d

    next : (c : ℕ) → max (clock_of new c) (greatest_clock (drop (i + 1) entries) c) ≡ greatest_clock entries c
    next c = by_client (nat_eq e.0.0 c) refl (subst (λ left. max (clock_of old c) (greatest_clock left c) ≡ greatest_clock entries c) (drop_more entries i d lt) (before.clocks c))
      where
        by_client : (this : Bool) → nat_eq e.0.0 c ≡ this →
            max (clock_of old c) (cond this (max e.1 (greatest_clock (drop (i + 1) entries) c)) (greatest_clock (drop (i + 1) entries) c)) ≡ greatest_clock entries c →
            max (clock_of new c) (greatest_clock (drop (i + 1) entries) c) ≡ greatest_clock entries c
        by_client true is here =
            let this : clock_of new c ≡ max (clock_of old c) e.1 = subst (λ z. clock_of new z ≡ max (clock_of old z) e.1) (eqb-true e.0.0 c is) raises.this_client in
            omega arith
        by_client false is here = let other = raises.other_clients c (λ same. eqb-false e.0.0 c is (sym same)) in omega arith

-- all have come
pub raising_ends : (entries vector : List Entry) (i : ℕ) → IsRaising entries vector i → length entries ≤ i → HasGreatest vector entries
raising_ends entries vector i g le c =
    let none : greatest_clock (drop i entries) c ≡ 0 = subst (λ left. greatest_clock left c ≡ 0) (sym (drop_all i entries le)) refl in
    let all = g.clocks c in
    omega arith
