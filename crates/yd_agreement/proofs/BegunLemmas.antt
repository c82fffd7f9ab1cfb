-- The cover at an id: of the runs that begin there or before it, the one that ends last.
use Rattle.std.proofs.Common.{◌≡◌, ℕ, zero, suc, ◌<◌, ◌≤◌, Bool, true, false, List, [], ◌∷◌, inl, inr, length, get_or, take, Bor, refl, sym, ap, ◌∙◌, subst, arith, tests, true≢false}
use Rattle.std.proofs.lemmas.List.{get_or-map}
use Rattle.std.specs.List.Sorted.{IsPartitionPoint, IsPartitionedBy}
use Rattle.std.specs.Prelude.{not}
use Rattle.yd_words.specs.Member.{IsIn}
use Rattle.yd_words.proofs.MemberLemmas.{each_in, in_each}
use Rattle.yd_words.proofs.TestLemmas.{split}
use Rattle.yd_ids.specs.Ids.{is_smaller}
use Rattle.yd_ids.specs.declared.id.Id.{Id}
use Rattle.yd_ops.specs.Value.{RunValue}
use Rattle.yd_ops.specs.View.{run_value}
use Rattle.yd_ops.specs.declared.runs.Run.{Run}
use Rattle.yd_agreement.specs.Runs.{AreAscending, ComesBy, EndsBy, IsCover, lent_runs}
use Rattle.yd_agreement.specs.Sweep.{IsCoverAt}
use Rattle.yd_agreement.proofs.OrderLemmas.{before_place, by_through, comes_by, not_smaller}
use Rattle.yd_agreement.proofs.CoverLemmas.{in_front, length-lent}

at_place : (runs : List RunValue) (r : RunValue) → IsIn r runs → (n : ℕ) × (n < length runs) × ((d : RunValue) → r ≡ get_or runs n d)
at_place [] r i = absurd i
at_place (s ∷ ss) r (inl e) = (0, omega arith, λ d. e)
at_place (s ∷ ss) r (inr i) = let (n, lt, e) = at_place ss r i in (suc n, omega arith, e)

in_front_at : (runs : List RunValue) (k n : ℕ) (d : RunValue) → n < k → n < length runs → IsIn (get_or runs n d) (take k runs)
in_front_at [] k n d less lt = absurd (omega arith)
in_front_at (r ∷ rs) zero n d less lt = absurd (omega arith)
in_front_at (r ∷ rs) (suc k) zero d less lt = inl refl
in_front_at (r ∷ rs) (suc k) (suc n) d less lt = inr (in_front_at rs k n d (omega arith) (omega arith))

-- each run of the first ones begins there or before it, and none of the others
pub record ArePartedAt (runs : List RunValue) (x : Id) (count : ℕ) : Type 0 where
  pub begun : (n : ℕ) (d : RunValue) → n < length runs → n < count → ComesBy (get_or runs n d).id x
  pub later : (n : ℕ) (d : RunValue) → n < length runs → count ≤ n → ComesBy (get_or runs n d).id x → ⊥

in_front_by : (runs : List RunValue) (x : Id) (count : ℕ) → ArePartedAt runs x count → (r : RunValue) → IsIn r runs → ComesBy r.id x → IsIn r (take count runs)
in_front_by runs x count parted r i by = let (n, lt, e) = at_place runs r i in elim (split count n) [
  | inl le ↦ absurd (parted.later n r lt le (subst (λ (s : RunValue). ComesBy s.id x) (e r) by))
  | inr less ↦ subst (λ s. IsIn s (take count runs)) (sym (e r)) (in_front_at runs count n r less lt)
]

pub none_begins : (runs : List RunValue) (x : Id) (count : ℕ) → ArePartedAt runs x count → count ≡ 0 → (r : RunValue) → IsIn r runs → ComesBy r.id x → ⊥
none_begins runs x count parted none r i by = subst (λ (n : ℕ). IsIn r (take n runs)) none (in_front_by runs x count parted r i by)

pub cover_tells : (runs : List RunValue) (x : Id) (count : ℕ) (cover : RunValue) → ArePartedAt runs x count → IsCover (take count runs) cover → IsCoverAt runs x cover
cover_tells runs x count cover parted is = record {
  there = in_front runs count cover is.there;
  begins = each_in (λ (r : RunValue). ComesBy r.id x) (take count runs)
      (in_each (λ (r : RunValue). ComesBy r.id x) (take count runs) (begun runs count parted.begun)) cover is.there;
  last = λ r i by. each_in (λ (s : RunValue). EndsBy s cover) (take count runs) is.last r (in_front_by runs x count parted r i by);
}
  where
    begun : (rs : List RunValue) (k : ℕ) → ((n : ℕ) (d : RunValue) → n < length rs → n < k → ComesBy (get_or rs n d).id x) → (r : RunValue) → IsIn r (take k rs) → ComesBy r.id x
    begun rs zero each r i = absurd i
    begun [] (suc k) each r i = absurd i
    begun (s ∷ ss) (suc k) each r (inl e) = subst (λ (t : RunValue). ComesBy t.id x) (sym e) (each 0 s (omega arith) (omega arith))
    begun (s ∷ ss) (suc k) each r (inr i) = begun ss k (λ n d lt less. each (suc n) d (omega arith) (omega arith)) r i

-- whether a run begins at the id or before it
abbrev pub is_begun : Id → Bor Run → Bool
is_begun x run = not (is_smaller x run.now.id)

begun_is : (x y : Id) → not (is_smaller x y) ≡ true → is_smaller x y ≡ false
begun_is x y e = grind (arith, tests)

is_begun_by : (x y : Id) → is_smaller x y ≡ false → not (is_smaller x y) ≡ true
is_begun_by x y e = grind (arith, tests)

later_is : (x y : Id) → not (is_smaller x y) ≡ false → is_smaller x y ≡ true
later_is x y e = grind (arith, tests)

ascending_at : (runs : List RunValue) (i j : ℕ) (d : RunValue) → AreAscending runs → i ≤ j → j < length runs → ComesBy (get_or runs i d).id (get_or runs j d).id
ascending_at runs i j d a le lt = elim (split j i) [
  | inl same ↦ let one : i ≡ j = omega (arith, same, le) in subst (λ (n : ℕ). ComesBy (get_or runs i d).id (get_or runs n d).id) one (inr (refl, omega arith))
  | inr less ↦ each_in (λ (s : RunValue). ComesBy s.id (get_or runs j d).id) (take j runs) (before_place runs j d a lt) (get_or runs i d)
      (in_front_at runs j i d less (omega (arith, less, lt)))
]

lent_id : (runs : List (Bor Run)) (n : ℕ) (d : Bor Run) (e : RunValue) → n < length runs → (get_or runs n d).now.id ≡ (get_or (lent_runs runs) n e).id
lent_id runs n d e lt = ap (λ (r : RunValue). r.id) (sym (get_or-map (λ (r : Bor Run). run_value r.now) runs n d e lt))

pub begun_parted : (runs : List (Bor Run)) (x : Id) → AreAscending (lent_runs runs) → IsPartitionedBy (is_begun x) runs
begun_parted runs x a i j d le lt e = is_begun_by x (get_or runs i d).now.id (not_smaller (get_or runs i d).now.id x (by_through (get_or runs i d).now.id (get_or runs j d).now.id x
    (subst (λ y. ComesBy y (get_or runs j d).now.id) (sym (lent_id runs i d (run_value d.now) (omega (arith, le, lt))))
    (subst (λ y. ComesBy (get_or (lent_runs runs) i (run_value d.now)).id y) (sym (lent_id runs j d (run_value d.now) lt))
    (ascending_at (lent_runs runs) i j (run_value d.now) a le (omega (arith, lt, length-lent runs)))))
    (comes_by (get_or runs j d).now.id x (begun_is x (get_or runs j d).now.id e))))

pub parted_is : (runs : List (Bor Run)) (x : Id) (count : ℕ) → IsPartitionPoint (λ (r : Bor Run). is_begun x r ≡ true) (λ (r : Bor Run). is_begun x r ≡ false) runs count →
    ArePartedAt (lent_runs runs) x count
parted_is runs x count point = record { begun = begun; later = later }
  where
    begun : (n : ℕ) (d : RunValue) → n < length (lent_runs runs) → n < count → ComesBy (get_or (lent_runs runs) n d).id x
    begun n d lt less = go runs n lt (λ e. point.0 n e (omega arith) less)
      where
        go : (rs : List (Bor Run)) (m : ℕ) → m < length (lent_runs rs) → ((e : Bor Run) → is_begun x (get_or rs m e) ≡ true) → ComesBy (get_or (lent_runs rs) m d).id x
        go [] m le is = absurd (omega (arith, le))
        go (r ∷ rs) zero le is = comes_by r.now.id x (begun_is x r.now.id (is r))
        go (r ∷ rs) (suc m) le is = go rs m (omega (arith, le)) is

    later : (n : ℕ) (d : RunValue) → n < length (lent_runs runs) → count ≤ n → ComesBy (get_or (lent_runs runs) n d).id x → ⊥
    later n d lt le by = go runs n lt (λ e. point.1 n e le (omega (arith, lt, length-lent runs))) by
      where
        go : (rs : List (Bor Run)) (m : ℕ) → m < length (lent_runs rs) → ((e : Bor Run) → is_begun x (get_or rs m e) ≡ false) → ComesBy (get_or (lent_runs rs) m d).id x → ⊥
        go [] m less is c = absurd (omega (arith, less))
        go (r ∷ rs) zero less is c = absurd (true≢false (sym (later_is x r.now.id (is r)) ∙ not_smaller r.now.id x c))
        go (r ∷ rs) (suc m) less is c = go rs m (omega (arith, less)) is c

-- ---- lemmas for callers

pub parted_by : (runs lent : List (Bor Run)) (x : Id) (count : ℕ) → AreAscending (lent_runs runs) → lent ≡ runs →
    (IsPartitionedBy (is_begun x) lent → IsPartitionPoint (λ (r : Bor Run). is_begun x r ≡ true) (λ (r : Bor Run). is_begun x r ≡ false) lent count) →
    ArePartedAt (lent_runs runs) x count
parted_by runs lent x count a e point = parted_is runs x count
    (subst (λ rs. IsPartitionPoint (λ (r : Bor Run). is_begun x r ≡ true) (λ (r : Bor Run). is_begun x r ≡ false) rs count) e
    (point (subst (IsPartitionedBy (is_begun x)) (sym e) (begun_parted runs x a))))
