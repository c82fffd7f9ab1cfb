-- The order of ids and of runs: what a sort of runs gives, and what a filter keeps of it.
use Rattle.std.proofs.Common.{◌≡◌, ℕ, zero, suc, ◌<◌, ◌≤◌, Bool, true, false, cond, List, [], ◌∷◌, ◌⊎◌, inl, inr, length, get_or, take, Bor, refl, sym, ap, ◌∙◌, subst, is_lt, nat_lt, nat_eq, true≢false, add-one, arith, tests}
use Rattle.std.specs.List.Sorted.{IsPermutation, IsSortedByKey}
use Rattle.std.specs.Ordering.{nat_cmp, ordering_then}
use Rattle.std.specs.Prelude.{if◌then◌else◌}
use Rattle.std.specs.declared.cmp.Ordering.{Ordering}
use Rattle.std.specs.declared.cmp.Ordering.TheVariants.{Less, Equal, Greater}
use Rattle.std.proofs.lemmas.List.Sorted.{IsPermutation-map, IsPermutation-sym}
use Rattle.yd_words.specs.Each.{Each}
use Rattle.yd_words.specs.Member.{IsIn}
use Rattle.yd_words.proofs.EachLemmas.{each_permuted, each_weaker}
use Rattle.yd_words.proofs.FilterLemmas.{kept_one}
use Rattle.yd_words.proofs.MemberLemmas.{each_in, in_each}
use Rattle.yd_ids.specs.Ids.{is_smaller}
use Rattle.yd_ids.specs.declared.id.Id.{Id}
use Rattle.yd_ids.proofs.IdLemmas.{same_client}
use Rattle.yd_ops.specs.Value.{RunValue}
use Rattle.yd_ops.specs.View.{run_value}
use Rattle.yd_ops.specs.declared.runs.Run.{Run}
use Rattle.yd_agreement.specs.Runs.{AreAscending, ComesBy, EndsBy, HaveSameRuns, full_runs, is_full, lent_runs}

-- ---- the order of ids

greater_client : (a b : Id) → b.client.0 < a.client.0 → is_smaller b a ≡ true
greater_client a b lt = grind (arith, tests)

clock_by : (a b : Id) → is_smaller b a ≡ false → a.client.0 ≡ b.client.0 → a.clock ≤ b.clock
clock_by a b e same = grind (arith, tests)

-- an id comes by another one that is not smaller
pub comes_by : (a b : Id) → is_smaller b a ≡ false → ComesBy a b
comes_by a b e = elim (three a.client.0 b.client.0) [
  | inl less ↦ inl less
  | inr (inl same) ↦ inr (same_client a b same, clock_by a b e same)
  | inr (inr more) ↦ absurd (true≢false (sym (greater_client a b more) ∙ e))
]
  where
    three : (m n : ℕ) → (m < n) ⊎ ((m ≡ n) ⊎ (n < m))
    three m n = grind arith

less_client : (a b : Id) → a.client.0 < b.client.0 → is_smaller b a ≡ false
less_client a b lt = grind (arith, tests)

no_less_clock : (a b : Id) → a.client.0 ≡ b.client.0 → a.clock ≤ b.clock → is_smaller b a ≡ false
no_less_clock a b same le = grind (arith, tests)

pub not_smaller : (a b : Id) → ComesBy a b → is_smaller b a ≡ false
not_smaller a b (inl less) = less_client a b less
not_smaller a b (inr (same, le)) = no_less_clock a b (ap (λ c. c.0) same) le

pub by_through : (x y z : Id) → ComesBy x y → ComesBy y z → ComesBy x z
by_through x y z (inl a) (inl b) = inl (omega (arith, a, b))
by_through x y z (inl a) (inr (same, le)) = inl (omega (arith, a, ap (λ c. c.0) same))
by_through x y z (inr (same, le)) (inl b) = inl (omega (arith, b, ap (λ c. c.0) same))
by_through x y z (inr (same, le)) (inr (also, more)) = inr (same ∙ also, omega (arith, le, more))

-- ---- of ends

pub ends_itself : (r : RunValue) → EndsBy r r
ends_itself r = inr (refl, omega arith)

pub ends_through : (r s t : RunValue) → EndsBy r s → EndsBy s t → EndsBy r t
ends_through r s t (inl a) (inl b) = inl (omega (arith, a, b))
ends_through r s t (inl a) (inr (same, le)) = inl (omega (arith, a, ap (λ c. c.0) same))
ends_through r s t (inr (same, le)) (inl b) = inl (omega (arith, b, ap (λ c. c.0) same))
ends_through r s t (inr (same, le)) (inr (also, more)) = inr (same ∙ also, omega (arith, le, more))

-- ---- from a sort

-- how ids compare
abbrev pub id_cmp : Id → Id → Ordering
id_cmp a b = ordering_then (nat_cmp a.client.0 b.client.0) (nat_cmp a.clock b.clock)

not_less : (a b : Id) → is_lt (id_cmp a b) ≡ false → is_smaller a b ≡ false
not_less a b h = go (nat_lt a.client.0 b.client.0) refl (nat_eq a.client.0 b.client.0) refl (nat_lt a.clock b.clock) refl h
  where
    go : (p : Bool) → nat_lt a.client.0 b.client.0 ≡ p → (q : Bool) → nat_eq a.client.0 b.client.0 ≡ q → (r : Bool) → nat_lt a.clock b.clock ≡ r →
        is_lt (ordering_then (cond p Less (cond q Equal Greater)) (cond r Less (cond (nat_eq a.clock b.clock) Equal Greater))) ≡ false → is_smaller a b ≡ false
    go true x q y r z e = absurd (true≢false e)
    go false x true y true z e = absurd (true≢false e)
    go false x true y false z e = rw (x, y, z) refl
    go false x false y r z e = rw (x, y) refl

ascending_from : (runs : List (Bor Run)) → ((k : ℕ) (d : Bor Run) → suc k < length runs → ComesBy (get_or runs k d).now.id (get_or runs (suc k) d).now.id) →
    AreAscending (lent_runs runs)
ascending_from [] h = tt
ascending_from (x ∷ []) h = (tt, tt)
ascending_from (x ∷ y ∷ runs) h =
    let first : ComesBy x.now.id y.now.id = h 0 x (omega arith) in
    let rest = ascending_from (y ∷ runs) (λ k z lt. h (suc k) z (omega arith)) in (
      (
        first,
        each_weaker (λ (s : RunValue). ComesBy y.now.id s.id) (λ (s : RunValue). ComesBy x.now.id s.id) (λ s c. by_through x.now.id y.now.id s.id first c)
            (lent_runs runs) rest.0,
      ),
      rest,
    )

-- runs that are sorted by their ids ascend
pub sorted_ascending : (runs : List (Bor Run)) → IsSortedByKey (λ (run : Bor Run). run.now.id) id_cmp runs → AreAscending (lent_runs runs)
sorted_ascending runs s = ascending_from runs (λ k z lt. comes_by (get_or runs k z).now.id (get_or runs (suc k) z).now.id
    (not_less (get_or runs (suc k) z).now.id (get_or runs k z).now.id
    (subst (λ n. is_lt (id_cmp (get_or runs n z).now.id (get_or runs k z).now.id) ≡ false) (add-one k) (s k z (omega arith) (omega arith)))))

permuted_in : (rs ss : List RunValue) → IsPermutation rs ss → (r : RunValue) → IsIn r ss → IsIn r rs
permuted_in rs ss p r i = each_in (λ s. IsIn s rs) ss (each_permuted (λ s. IsIn s rs) rs ss p (in_each (λ s. IsIn s rs) rs (λ s j. j))) r i

-- the runs in another order are the same
pub sorted_same : (old new : List (Bor Run)) (all : List RunValue) → IsPermutation old new → lent_runs old ≡ all → HaveSameRuns (lent_runs new) all
sorted_same old new all p e = subst (HaveSameRuns (lent_runs new)) e (λ r. (
  permuted_in (lent_runs old) (lent_runs new) both r,
  permuted_in (lent_runs new) (lent_runs old) (IsPermutation-sym (lent_runs old) (lent_runs new) both) r,
))
  where
    both : IsPermutation (lent_runs old) (lent_runs new)
    both = IsPermutation-map (λ (run : Bor Run). run_value run.now) old new p

-- ---- lemmas for callers

pub full_ascending : (runs : List RunValue) → AreAscending runs → AreAscending (full_runs runs)
full_ascending [] a = tt
full_ascending (r ∷ rs) a = go (is_full r.content) (full_ascending rs a.1)
  where
    each : Each (λ (s : RunValue). ComesBy r.id s.id) (full_runs rs)
    each = in_each (λ (s : RunValue). ComesBy r.id s.id) (full_runs rs)
        (λ s i. each_in (λ (t : RunValue). ComesBy r.id t.id) rs a.0 s (kept_one (λ (t : RunValue). is_full t.content) rs s i).1)

    go : (t : Bool) → AreAscending (full_runs rs) → AreAscending (if t then r ∷ full_runs rs else full_runs rs)
    go true rest = (each, rest)
    go false rest = rest

-- those before a place come by the run there
pub before_place : (runs : List RunValue) (n : ℕ) (d : RunValue) → AreAscending runs → n < length runs → Each (λ (s : RunValue). ComesBy s.id (get_or runs n d).id) (take n runs)
before_place [] n d a lt = absurd (omega arith)
before_place (r ∷ rs) zero d a lt = tt
before_place (r ∷ rs) (suc n) d a lt = (at r.id rs n d a.0 (omega arith), before_place rs n d a.1 (omega arith))
  where
    at : (x : Id) (ss : List RunValue) (m : ℕ) (e : RunValue) → Each (λ (s : RunValue). ComesBy x s.id) ss → m < length ss → ComesBy x (get_or ss m e).id
    at x [] m e each le = absurd (omega arith)
    at x (s ∷ ss) zero e each le = each.0
    at x (s ∷ ss) (suc m) e each le = at x ss m e each.1 (omega arith)
