-- Where a session stands among sessions in order: behind the smaller ones.
use Rattle.std.proofs.Common.{◌≡◌, ℕ, zero, suc, ◌<◌, Bool, true, false, ◌||◌, List, [], ◌∷◌, length, get_or, take, drop, inl, inr, refl, sym, ap, subst, arith, tests, true≢false, nat_eq, nat_lt}
use Rattle.std.specs.List.Sorted.{IsPartitionedBy}
use Rattle.std.specs.Prelude.{insert, remove}
use Rattle.yd_words.specs.Each.{Each}
use Rattle.yd_words.proofs.EachLemmas.{each_at}
use Rattle.yd_words.proofs.TestLemmas.{split}
use Rattle.yd_hub.specs.Sessions.{AreSessions, is_first, is_open, with_session, without}
use Rattle.yd_hub.proofs.OpenLemmas.{less_trans}

-- what a place says of the numbers before it and behind it
abbrev Smaller : ℕ → ℕ → Type 0
Smaller session n = nat_lt n session ≡ true

abbrev NotSmaller : ℕ → ℕ → Type 0
NotSmaller session n = nat_lt n session ≡ false

less_differs : (n s : ℕ) → nat_lt n s ≡ true → nat_eq n s ≡ false
less_differs n s e = grind (arith, tests)

less_not_back : (n s : ℕ) → nat_lt n s ≡ true → nat_lt s n ≡ false
less_not_back n s e = grind (arith, tests)

-- no later one is the session
later_closed : (n s : ℕ) (ns : List ℕ) → Each (λ later. nat_lt n later ≡ true) ns → nat_lt n s ≡ false → is_open ns s ≡ false
later_closed n s [] each e = refl
later_closed n s (m ∷ ns) each e = rw (other m each.0) (later_closed n s ns each.1 e)
  where
    other : (m : ℕ) → nat_lt n m ≡ true → nat_eq m s ≡ false
    other m f = grind (arith, tests)

-- and none is left out that is not there
without_later : (n s : ℕ) (ns : List ℕ) → Each (λ later. nat_lt n later ≡ true) ns → nat_lt n s ≡ false → without s ns ≡ ns
without_later n s [] each e = refl
without_later n s (m ∷ ns) each e = rw (other m each.0) (ap (λ ms. m ∷ ms) (without_later n s ns each.1 e))
  where
    other : (m : ℕ) → nat_lt n m ≡ true → nat_eq m s ≡ false
    other m f = grind (arith, tests)

-- ---- lemmas for callers

ascend : (ns : List ℕ) (i j d : ℕ) → AreSessions ns → i < j → j < length ns → nat_lt (get_or ns i d) (get_or ns j d) ≡ true
ascend [] i j d are less lt = absurd (omega (arith, lt))
ascend (n ∷ ns) zero zero d are less lt = absurd (omega (arith, less))
ascend (n ∷ ns) zero (suc j) d are less lt = each_at (λ later. nat_lt n later ≡ true) ns j d are.0 (omega (arith, lt))
ascend (n ∷ ns) (suc i) zero d are less lt = absurd (omega (arith, less))
ascend (n ∷ ns) (suc i) (suc j) d are less lt = ascend ns i j d are.1 (omega (arith, less)) (omega (arith, lt))

-- the smaller ones stand in front
pub sessions_parted : (ns : List ℕ) (s : ℕ) → AreSessions ns → IsPartitionedBy (λ (n : ℕ). nat_lt n s) ns
sessions_parted ns s are i j d le lt t = elim (split j i) [
  | inr less ↦ less_trans (get_or ns i d) (get_or ns j d) s (ascend ns i j d are less lt) t
  | inl ge ↦ let same : i ≡ j = omega (arith, le, ge) in rw same t
]

pub first_is_open : (ns : List ℕ) (at s : ℕ) → AreSessions ns → Each (Smaller s) (take at ns) → Each (NotSmaller s) (drop at ns) → is_first (drop at ns) s ≡ is_open ns s
first_is_open [] zero s are before behind = refl
first_is_open [] (suc at) s are before behind = refl
first_is_open (n ∷ ns) zero s are before behind = sym (or_none (nat_eq n s) (is_open ns s) (later_closed n s ns are.0 behind.0))
  where
    or_none : (t u : Bool) → u ≡ false → t || u ≡ t
    or_none true u e = refl
    or_none false u e = e
first_is_open (n ∷ ns) (suc at) s are before behind = rw (less_differs n s before.0) (first_is_open ns at s are.1 before.1 behind)

pub inserted_is : (ns : List ℕ) (at s : ℕ) → AreSessions ns → Each (Smaller s) (take at ns) → Each (NotSmaller s) (drop at ns) → is_first (drop at ns) s ≡ false →
    with_session s ns ≡ insert ns at s
inserted_is [] zero s are before behind new = refl
inserted_is [] (suc at) s are before behind new = refl
inserted_is (n ∷ ns) zero s are before behind new = rw (above behind.0 new) refl
  where
    above : nat_lt n s ≡ false → nat_eq n s ≡ false → nat_lt s n ≡ true
    above e f = grind (arith, tests)
inserted_is (n ∷ ns) (suc at) s are before behind new = rw (less_not_back n s before.0, other before.0) (ap (λ ms. n ∷ ms) (inserted_is ns at s are.1 before.1 behind new))
  where
    other : nat_lt n s ≡ true → nat_eq s n ≡ false
    other e = grind (arith, tests)

pub inserted_again : (ns : List ℕ) (at s : ℕ) → Each (Smaller s) (take at ns) → is_first (drop at ns) s ≡ true → with_session s ns ≡ ns
inserted_again [] zero s before there = absurd (true≢false (sym there))
inserted_again [] (suc at) s before there = absurd (true≢false (sym there))
inserted_again (n ∷ ns) zero s before there = rw (not_less there, turned there) refl
  where
    not_less : nat_eq n s ≡ true → nat_lt s n ≡ false
    not_less e = grind (arith, tests)

    turned : nat_eq n s ≡ true → nat_eq s n ≡ true
    turned e = grind (arith, tests)
inserted_again (n ∷ ns) (suc at) s before there = rw (less_not_back n s before.0, other before.0) (ap (λ ms. n ∷ ms) (inserted_again ns at s before.1 there))
  where
    other : nat_lt n s ≡ true → nat_eq s n ≡ false
    other e = grind (arith, tests)

pub removed_is : (ns : List ℕ) (at s : ℕ) → AreSessions ns → Each (Smaller s) (take at ns) → is_first (drop at ns) s ≡ true → without s ns ≡ remove ns at
removed_is [] zero s are before there = absurd (true≢false (sym there))
removed_is [] (suc at) s are before there = absurd (true≢false (sym there))
removed_is (n ∷ ns) zero s are before there = rw there (without_later n s ns are.0 (not_less there))
  where
    not_less : nat_eq n s ≡ true → nat_lt n s ≡ false
    not_less e = grind (arith, tests)
removed_is (n ∷ ns) (suc at) s are before there = rw (less_differs n s before.0) (ap (λ ms. n ∷ ms) (removed_is ns at s are.1 before.1 there))

pub removed_none : (ns : List ℕ) (at s : ℕ) → AreSessions ns → Each (Smaller s) (take at ns) → Each (NotSmaller s) (drop at ns) → is_first (drop at ns) s ≡ false → without s ns ≡ ns
removed_none [] zero s are before behind new = refl
removed_none [] (suc at) s are before behind new = refl
removed_none (n ∷ ns) zero s are before behind new = rw new (ap (λ ms. n ∷ ms) (without_later n s ns are.0 behind.0))
removed_none (n ∷ ns) (suc at) s are before behind new = rw (less_differs n s before.0) (ap (λ ms. n ∷ ms) (removed_none ns at s are.1 before.1 behind new))

-- ---- the same of slices that are these numbers

pub inserted_at : (ns front back : List ℕ) (at s : ℕ) → AreSessions ns → front ≡ ns → back ≡ ns → Each (λ n. nat_lt n s ≡ true) (take at front) →
    Each (λ n. nat_lt n s ≡ false) (drop at front) → is_first (drop at back) s ≡ false → with_session s ns ≡ insert ns at s
inserted_at ns front back at s are e f before behind new = inserted_is ns at s are (subst (λ l. Each (Smaller s) (take at l)) e before)
    (subst (λ l. Each (NotSmaller s) (drop at l)) e behind) (subst (λ l. is_first (drop at l) s ≡ false) f new)

pub there_at : (ns front back : List ℕ) (at s : ℕ) → front ≡ ns → back ≡ ns → Each (λ n. nat_lt n s ≡ true) (take at front) → is_first (drop at back) s ≡ true → with_session s ns ≡ ns
there_at ns front back at s e f before there = inserted_again ns at s (subst (λ l. Each (Smaller s) (take at l)) e before) (subst (λ l. is_first (drop at l) s ≡ true) f there)

pub removed_at : (ns front back : List ℕ) (at s : ℕ) → AreSessions ns → front ≡ ns → back ≡ ns → Each (λ n. nat_lt n s ≡ true) (take at front) → is_first (drop at back) s ≡ true →
    without s ns ≡ remove ns at
removed_at ns front back at s are e f before there = removed_is ns at s are (subst (λ l. Each (Smaller s) (take at l)) e before) (subst (λ l. is_first (drop at l) s ≡ true) f there)

pub not_there_at : (ns front back : List ℕ) (at s : ℕ) → AreSessions ns → front ≡ ns → back ≡ ns → Each (λ n. nat_lt n s ≡ true) (take at front) →
    Each (λ n. nat_lt n s ≡ false) (drop at front) → is_first (drop at back) s ≡ false → without s ns ≡ ns
not_there_at ns front back at s are e f before behind new = removed_none ns at s are (subst (λ l. Each (Smaller s) (take at l)) e before)
    (subst (λ l. Each (NotSmaller s) (drop at l)) e behind) (subst (λ l. is_first (drop at l) s ≡ false) f new)
