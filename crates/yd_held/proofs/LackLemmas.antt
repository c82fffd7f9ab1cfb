-- The order of lacks, one more at its place, and those that units meet, which stand in a row.
use Rattle.std.proofs.Common.{◌≡◌, ℕ, zero, suc, ◌+◌, ◌-◌, ◌<◌, ◌≤◌, Bool, true, false, cond, not, List, [], ◌∷◌, ◌++◌, inl, inr, length, get_or, take, drop, filter, refl, ap, ◌∙◌, arith, tests}
use Rattle.std.specs.List.Sorted.{IsPartitionedBy}
use Rattle.yd_words.specs.Each.{Each}
use Rattle.yd_words.proofs.EachLemmas.{each_weaker}
use Rattle.yd_words.proofs.FilterLemmas.{kept_one}
use Rattle.yd_words.proofs.MemberLemmas.{each_in, in_each}
use Rattle.yd_ids.specs.declared.id.Id.{Id}
use Rattle.yd_ids.proofs.IdLemmas.{same_numbers}
use Rattle.yd_entries.specs.declared.entry.Entry.{Entry}
use Rattle.yd_entries.specs.Entries.{covers}
use Rattle.yd_held.specs.declared.noting.Lack.{Lack}
use Rattle.yd_held.specs.Noted.{stands_before, same_lack, first_lack, AreSorted, with_lack}
use Rattle.yd_words.specs.Member.{IsIn}

-- ---- the order

before_through : (l m k : Lack) → stands_before l m ≡ true → stands_before m k ≡ true → stands_before l k ≡ true
before_through l m k e f = grind (arith, tests)

before_other : (l m : Lack) → stands_before m l ≡ false → same_lack m l ≡ false → stands_before l m ≡ true
before_other l m e f = grind (arith, tests)

parted_from : (l : Lack) (ls : List Lack) (k : Lack) → Each (λ m. stands_before l m ≡ true) ls → (j : ℕ) (d : Lack) → j < length ls →
    stands_before (get_or ls j d) k ≡ true → stands_before l k ≡ true
parted_from l [] k each j d lt e = absurd (omega arith)
parted_from l (m ∷ ms) k each zero d lt e = before_through l m k each.0 e
parted_from l (m ∷ ms) k each (suc j) d lt e = parted_from l ms k each.1 j d (omega arith) e

-- those that stand before a lack come first
pub lacks_parted : (ls : List Lack) (k : Lack) → AreSorted ls → IsPartitionedBy (λ (l : Lack). stands_before l k) ls
lacks_parted [] k sorted i j d le lt e = absurd (omega arith)
lacks_parted (l ∷ ls) k sorted zero zero d le lt e = e
lacks_parted (l ∷ ls) k sorted zero (suc j) d le lt e = parted_from l ls k sorted.0 j d (omega arith) e
lacks_parted (l ∷ ls) k sorted (suc i) zero d le lt e = absurd (omega arith)
lacks_parted (l ∷ ls) k sorted (suc i) (suc j) d le lt e = lacks_parted ls k sorted.1 i j d (omega arith) (omega arith) e

-- ---- one more

module _ (l : Lack) where
  -- where so many stand before it and the others do not, it goes between them, unless it is the first of those
  pub with_there : (ls : List Lack) (p : ℕ) (d : Lack) → Each (λ m. stands_before m l ≡ true) (take p ls) → Each (λ m. stands_before m l ≡ false) (drop p ls) →
      p < length ls → same_lack (get_or ls p d) l ≡ true → with_lack l ls ≡ ls
  with_there [] p d before behind lt e = absurd (omega arith)
  with_there (m ∷ ms) zero d before behind lt e = rw (behind.0, e) refl
  with_there (m ∷ ms) (suc p) d before behind lt e = rw before.0 (ap (λ ls. m ∷ ls) (with_there ms p d before.1 behind (omega arith) e))

  pub with_here : (ls : List Lack) (p : ℕ) → Each (λ m. stands_before m l ≡ true) (take p ls) → Each (λ m. stands_before m l ≡ false) (drop p ls) →
      p ≤ length ls → (p < length ls → (d : Lack) → same_lack (get_or ls p d) l ≡ false) → with_lack l ls ≡ take p ls ++ l ∷ drop p ls
  with_here [] zero before behind le other = refl
  with_here [] (suc p) before behind le other = absurd (omega arith)
  with_here (m ∷ ms) zero before behind le other = rw (behind.0, other (omega arith) m) refl
  with_here (m ∷ ms) (suc p) before behind le other = rw before.0 (ap (λ ls. m ∷ ls) (with_here ms p before.1 behind (omega arith) (λ lt d. other (omega arith) d)))

  same_is : (m : Lack) → same_lack m l ≡ true → l ≡ m
  same_is m e = λ i. record { id = same_numbers l.id m.id (grind (arith, tests)) (grind (arith, tests)) i; client = client i }
    where
      client : l.client ≡ m.client
      client = let same : l.client.0 ≡ m.client.0 = grind (arith, tests) in λ i. record { 0 = same i }

  -- it stands among them then, and those that stood there still do
  pub with_has : (ls : List Lack) → IsIn l (with_lack l ls)
  with_has [] = inl refl
  with_has (m ∷ ms) = go (stands_before m l) (same_lack m l) refl (with_has ms)
    where
      go : (s t : Bool) → same_lack m l ≡ t → IsIn l (with_lack l ms) → IsIn l (cond s (m ∷ with_lack l ms) (cond t (m ∷ ms) (l ∷ m ∷ ms)))
      go true t e rest = inr rest
      go false true e rest = inl (same_is m e)
      go false false e rest = inl refl

  pub with_stays : (ls : List Lack) (k : Lack) → IsIn k ls → IsIn k (with_lack l ls)
  with_stays [] k i = absurd i
  with_stays (m ∷ ms) k i = go (stands_before m l) (same_lack m l) i (with_stays ms k)
    where
      go : (s t : Bool) → IsIn k (m ∷ ms) → (IsIn k ms → IsIn k (with_lack l ms)) → IsIn k (cond s (m ∷ with_lack l ms) (cond t (m ∷ ms) (l ∷ m ∷ ms)))
      go true t (inl e) rest = inl e
      go true t (inr j) rest = inr (rest j)
      go false true j rest = j
      go false false j rest = inr j

  pub each_with : (P : Lack → Type 0) (ls : List Lack) → Each P ls → P l → Each P (with_lack l ls)
  each_with P [] each here = (here, tt)
  each_with P (m ∷ ms) each here = go (stands_before m l) (same_lack m l) (each_with P ms each.1 here)
    where
      go : (s t : Bool) → Each P (with_lack l ms) → Each P (cond s (m ∷ with_lack l ms) (cond t (m ∷ ms) (l ∷ m ∷ ms)))
      go true t rest = (each.0, rest)
      go false true rest = each
      go false false rest = (here, each)

  pub with_sorted : (ls : List Lack) → AreSorted ls → AreSorted (with_lack l ls)
  with_sorted [] sorted = (tt, tt)
  with_sorted (m ∷ ms) sorted = go (stands_before m l) (same_lack m l) refl refl (with_sorted ms sorted.1)
    where
      go : (s t : Bool) → stands_before m l ≡ s → same_lack m l ≡ t → AreSorted (with_lack l ms) → AreSorted (cond s (m ∷ with_lack l ms) (cond t (m ∷ ms) (l ∷ m ∷ ms)))
      go true t e f rest = (each_with (λ k. stands_before m k ≡ true) ms sorted.0 e, rest)
      go false true e f rest = sorted
      go false false e f rest =
          let first = before_other l m e f in
          ((first, each_weaker (λ k. stands_before m k ≡ true) (λ k. stands_before l k ≡ true) (λ k g. before_through l m k first g) ms sorted.0), sorted)

-- ---- those that are taken out

pub sorted_kept : (test : Lack → Bool) (ls : List Lack) → AreSorted ls → AreSorted (filter test ls)
sorted_kept test [] sorted = tt
sorted_kept test (l ∷ ls) sorted = go (test l) (sorted_kept test ls sorted.1)
  where
    go : (b : Bool) → AreSorted (filter test ls) → AreSorted (cond b (l ∷ filter test ls) (filter test ls))
    go true rest = (in_each (λ m. stands_before l m ≡ true) (filter test ls) (λ m i. each_in (λ k. stands_before l k ≡ true) ls sorted.0 m (kept_one test ls m i).1), rest)
    go false rest = rest

module _ (held : Entry) where
  -- the id behind the units
  abbrev pub end_of : Id
  end_of = record { client = held.id.client; clock = held.id.clock + held.len }

  met : Lack → Bool
  met l = covers held l.id

  unmet : Lack → Bool
  unmet l = not (covers held l.id)

  not_met_before : (l : Lack) → stands_before l (first_lack held.id) ≡ true → covers held l.id ≡ false
  not_met_before l e = grind (arith, tests)

  not_met_behind : (l : Lack) → stands_before l (first_lack end_of) ≡ false → covers held l.id ≡ false
  not_met_behind l e = grind (arith, tests)

  met_between : (l : Lack) → stands_before l (first_lack held.id) ≡ false → stands_before l (first_lack end_of) ≡ true → covers held l.id ≡ true
  met_between l e f = grind (arith, tests)

  not_both : (l : Lack) → stands_before l (first_lack held.id) ≡ true → stands_before l (first_lack end_of) ≡ false → ⊥
  not_both l e f = absurd (grind (arith, tests))

  none_met : (ls : List Lack) → Each (λ l. stands_before l (first_lack end_of) ≡ false) ls → (filter (λ (l : Lack). covers held l.id) ls ≡ []) × (filter (λ (l : Lack). not (covers held l.id)) ls ≡ ls)
  none_met [] each = (refl, refl)
  none_met (l ∷ ls) each = let (no_met, all) = none_met ls each.1 in (rw (not_met_behind l each.0) no_met, rw (not_met_behind l each.0) (ap (λ xs. l ∷ xs) all))

  -- what is met stands in a row, from the place of the first id on to that of the end
  met_row : (ls : List Lack) (first last : ℕ) → first ≤ length ls → last ≤ length ls →
      Each (λ l. stands_before l (first_lack held.id) ≡ true) (take first ls) → Each (λ l. stands_before l (first_lack held.id) ≡ false) (drop first ls) →
      Each (λ l. stands_before l (first_lack end_of) ≡ true) (take last ls) → Each (λ l. stands_before l (first_lack end_of) ≡ false) (drop last ls) →
      (count : ℕ) × (first + count ≡ last) × (filter (λ (l : Lack). covers held l.id) ls ≡ take count (drop first ls))
      × (filter (λ (l : Lack). not (covers held l.id)) ls ≡ take first ls ++ drop last ls)
  met_row [] zero zero p q a b c d = (0, omega arith, refl, refl)
  met_row [] zero (suc n) p q a b c d = absurd (omega arith)
  met_row [] (suc m) last p q a b c d = absurd (omega arith)
  met_row (l ∷ ls) zero zero p q a b c d = let (no_met, all) = none_met (l ∷ ls) d in (0, omega arith, no_met, all)
  met_row (l ∷ ls) zero (suc n) p q a b c d =
      let (count, sum, row, rest) = met_row ls zero n (omega arith) (omega arith) tt b.1 c.1 d in
      (suc count, omega (arith, sum), rw (met_between l b.0 c.0) (ap (λ xs. l ∷ xs) row), rw (met_between l b.0 c.0) rest)
  met_row (l ∷ ls) (suc m) zero p q a b c d = absurd (not_both l a.0 d.0)
  met_row (l ∷ ls) (suc m) (suc n) p q a b c d =
      let (count, sum, row, rest) = met_row ls m n (omega arith) (omega arith) a.1 b c.1 d in
      (count, omega (arith, sum), rw (not_met_before l a.0) row, rw (not_met_before l a.0) (ap (λ xs. l ∷ xs) rest))

  -- ---- lemmas for callers

  module _ (ls : List Lack) (first last : ℕ) (p : first ≤ length ls) (q : last ≤ length ls)
      (a : Each (λ l. stands_before l (first_lack held.id) ≡ true) (take first ls)) (b : Each (λ l. stands_before l (first_lack held.id) ≡ false) (drop first ls))
      (c : Each (λ l. stands_before l (first_lack end_of) ≡ true) (take last ls)) (d : Each (λ l. stands_before l (first_lack end_of) ≡ false) (drop last ls)) where
    pub places_ascend : first ≤ last
    places_ascend = let (count, sum, row, rest) = met_row ls first last p q a b c d in omega (arith, sum)

    pub met_are : filter (λ (l : Lack). covers held l.id) ls ≡ take (last - first) (drop first ls)
    met_are = let (count, sum, row, rest) = met_row ls first last p q a b c d in
        let same : count ≡ last - first = omega (arith, sum) in row ∙ ap (λ n. take n (drop first ls)) same

    pub unmet_are : filter (λ (l : Lack). not (covers held l.id)) ls ≡ take first ls ++ drop last ls
    unmet_are = let (count, sum, row, rest) = met_row ls first last p q a b c d in rest
