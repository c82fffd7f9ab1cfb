-- Places in slots, as they come and go at the end.
use Rattle.std.proofs.Common.{◌≡◌, ◌≢◌, ◌∙◌, ℕ, zero, suc, ◌<◌, ◌≤◌, true, false, cond, List, [], ◌∷◌, ◌++◌, Some, inl, inr, length, take, set, replicate, refl, sym, ap, subst, arith, tests, nat_eq}
use Rattle.std.specs.Prelude.{slice_get}
use Rattle.std.proofs.lemmas.List.{take-append-le}
use Rattle.std.proofs.lemmas.Option.{slice_get_within}
use Rattle.yd_words.proofs.OptionLemmas.{some_is}
use Rattle.yd_words.proofs.TestLemmas.{same_or_other}
use Rattle.yd_names.specs.Codes.{last_place}
use Rattle.yd_names.specs.Slots.{bound_of, AreSlots}
use Rattle.yd_names.proofs.CodesLemmas.{got_stays, got_before, got_last, got_front, take_whole, one_longer, last-snoc}

module _ {X : Type 0} where
  set_here : (xs : List X) (i : ℕ) (w : X) → i < length xs → slice_get (set xs i w) i ≡ Some w
  set_here [] i w h = absurd (omega arith)
  set_here (x ∷ xs) zero w h = refl
  set_here (x ∷ xs) (suc i) w h = set_here xs i w (omega arith)

  set_there : (xs : List X) (i j : ℕ) (w : X) → j ≢ i → slice_get (set xs i w) j ≡ slice_get xs j
  set_there [] i j w h = refl
  set_there (x ∷ xs) zero zero w h = absurd (h refl)
  set_there (x ∷ xs) zero (suc j) w h = refl
  set_there (x ∷ xs) (suc i) zero w h = refl
  set_there (x ∷ xs) (suc i) (suc j) w h = set_there xs i j w (λ e. h (ap suc e))

  set_long : (xs : List X) (i : ℕ) (w : X) → length (set xs i w) ≡ length xs
  set_long [] i w = refl
  set_long (x ∷ xs) zero w = refl
  set_long (x ∷ xs) (suc i) w = ap suc (set_long xs i w)

equal : (m n : ℕ) → m ≡ n → nat_eq m n ≡ true
equal m n e = grind (arith, tests)

apart : (m n : ℕ) → n ≢ m → nat_eq m n ≡ false
apart m n e = grind (arith, tests)

-- the place at the end of a slot is known there, and no other slot has it
last_here : (slots : List ℕ) (slot : ℕ) → bound_of (last_place slot (slots ++ slot ∷ [])) ≡ suc (length slots)
last_here slots slot = ap bound_of (last-snoc slot slot slots ∙ ap (λ b. cond b (Some (length slots)) (last_place slot slots)) (equal slot slot refl))

last_there : (slots : List ℕ) (slot other : ℕ) → other ≢ slot → bound_of (last_place other (slots ++ slot ∷ [])) ≡ bound_of (last_place other slots)
last_there slots slot other e = ap bound_of (last-snoc other slot slots ∙ ap (λ b. cond b (Some (length slots)) (last_place other slots)) (apart slot other e))

-- with a place at the end all are known
pub pushed_slots : (slots heads before : List ℕ) (slot was number : ℕ) → AreSlots slots heads before → slot < length heads → Some was ≡ slice_get heads slot → number ≡ suc (length before) →
    AreSlots (slots ++ slot ∷ []) (set heads slot number) (before ++ was ∷ [])
pushed_slots slots heads before slot was number s lt e counted = record {
  each = one_longer was before ∙ ap suc s.each ∙ sym (one_longer slot slots);
  latest = λ q less. elim (same_or_other q slot) [
    | inl same ↦ ap (λ k. slice_get (set heads slot number) k) same ∙ set_here heads slot number lt
        ∙ ap (λ k. Some k) (counted ∙ ap suc s.each ∙ sym (last_here slots slot) ∙ ap (λ k. bound_of (last_place k (slots ++ slot ∷ []))) (sym same))
    | inr other ↦ set_there heads slot q number other ∙ s.latest q (subst (λ n. q < n) (set_long heads slot number) less)
        ∙ ap (λ k. Some k) (sym (last_there slots slot q other))
  ];
  earlier = λ n q g. elim (got_before slot slots n q g) [
    | inl h ↦ got_stays before (was ∷ []) n (bound_of (last_place q (take n (slots ++ slot ∷ []))))
        (s.earlier n q h ∙ ap (λ l. Some (bound_of (last_place q l))) (sym (take-append-le n slots (slot ∷ []) (within n q h))))
    | inr (h, same) ↦ got_last was before n (h ∙ sym s.each) ∙ e ∙ s.latest slot lt ∙ ap (λ k. Some (bound_of (last_place k slots))) same
        ∙ ap (λ l. Some (bound_of (last_place q l))) (sym (ap (λ n. take n (slots ++ slot ∷ [])) h ∙ take_whole slot slots))
  ];
}
  where
    within : (n q : ℕ) → slice_get slots n ≡ Some q → n ≤ length slots
    within n q h = let lt : n < length slots = slice_get_within slots n q h in omega arith

-- without the place at the end all others are known
pub popped_slots : (slots heads before : List ℕ) (slot was : ℕ) → AreSlots (slots ++ slot ∷ []) heads (before ++ was ∷ []) → slot < length heads →
    AreSlots slots (set heads slot was) before
popped_slots slots heads before slot was s lt = record {
  each = each;
  latest = λ q less. elim (same_or_other q slot) [
    | inl same ↦ ap (λ k. slice_get (set heads slot was) k) same ∙ set_here heads slot was lt
        ∙ ap (λ k. Some k) (known ∙ ap (λ k. bound_of (last_place k slots)) (sym same))
    | inr other ↦ set_there heads slot q was other ∙ s.latest q (subst (λ n. q < n) (set_long heads slot was) less)
        ∙ ap (λ k. Some k) (last_there slots slot q other)
  ];
  earlier = λ n q g. let inside : n < length slots = slice_get_within slots n q g in
      sym (got_front was before n (subst (λ k. n < k) (sym each) inside)) ∙ s.earlier n q (got_stays slots (slot ∷ []) n q g)
      ∙ ap (λ l. Some (bound_of (last_place q l))) (take-append-le n slots (slot ∷ []) (omega arith));
}
  where
    each : length before ≡ length slots
    each = let e : suc (length before) ≡ suc (length slots) = sym (one_longer was before) ∙ s.each ∙ one_longer slot slots in omega arith

    known : was ≡ bound_of (last_place slot slots)
    known = some_is was (bound_of (last_place slot slots)) (sym (got_last was before (length slots) (sym each)) ∙ s.earlier (length slots) slot (got_last slot slots (length slots) refl)
        ∙ ap (λ l. Some (bound_of (last_place slot l))) (take_whole slot slots))

-- slots without a place
replicate_get : (size n : ℕ) → n < size → slice_get {X = ℕ} (replicate size 0) n ≡ Some 0
replicate_get zero n lt = absurd (omega arith)
replicate_get (suc size) zero lt = refl
replicate_get (suc size) (suc n) lt = replicate_get size n (omega arith)

replicate_long : (size : ℕ) → length {A = ℕ} (replicate size 0) ≡ size
replicate_long zero = refl
replicate_long (suc size) = ap suc (replicate_long size)

pub no_slots : (heads : List ℕ) (size : ℕ) → heads ≡ replicate size 0 → AreSlots [] heads []
no_slots heads size e = record {
  each = refl;
  latest = λ slot lt. ap (λ hs. slice_get hs slot) e ∙ replicate_get size slot (subst (λ n. slot < n) (ap (λ (hs : List ℕ). length hs) e ∙ replicate_long size) lt);
  earlier = λ n slot g. absurd cc;
}
