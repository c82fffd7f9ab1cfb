-- Sorting what is lent: where it is in turn in some order, it is so in the sorted one.
use Rattle.std.proofs.Common.{◌≡◌, ◌⊎◌, ℕ, suc, ◌-◌, ◌^◌, ◌<◌, ◌≤◌, Bool, true, false, cond, ◌&&◌, ◌||◌, List, [], ◌∷◌, inl, inr, map, not, length, get_or, refl, sym, ap, ◌∙◌, subst, is_lt, nat_lt, nat_le, nat_eq, true≢false, add-one, arith, tests}
use Rattle.std.specs.List.{AllByRecursion, IsDistinct}
use Rattle.std.specs.List.Sorted.{IsPermutation, IsSortedByKey}
use Rattle.std.specs.Ordering.{nat_cmp, ordering_then}
use Rattle.std.specs.declared.cmp.Ordering.{Ordering}
use Rattle.std.specs.declared.cmp.Ordering.TheVariants.{Less, Equal, Greater}
use Rattle.std.proofs.lemmas.List.Sorted.{IsPermutation-map, IsPermutation-sym}
use Rattle.std.proofs.lemmas.Map.Keys.{IsDistinct-IsPermutation}
use Rattle.yd_words.specs.Each.{Each}
use Rattle.yd_words.proofs.EachLemmas.{each_permuted}
use Rattle.yd_grouping.specs.Grouped.{end_of}
use Rattle.yd_grouping.specs.Groups.{Group, start_of}
use Rattle.yd_grouping.specs.Law.{HaveUnits}
use Rattle.yd_grouping.proofs.GroupedLemmas.{groups_units}
use Rattle.yd_merge.specs.declared.lending.Lent.{Lent}
use Rattle.yd_merge.specs.Lending.{AreInTurn, AreNeverInTurn, GoesBefore, IsLent, lent_group}
use Rattle.yd_merge.proofs.TurnLemmas.{are_groups, goes_all, have_unit, of_update, turn_rest}

-- ---- whether one of two groups goes before the other

abbrev goes : Group → Group → Bool
goes group next = nat_lt (start_of next).client.0 (start_of group).client.0 || (nat_eq (start_of group).client.0 (start_of next).client.0 && nat_le (end_of group) (start_of next).clock)

-- none of both does
abbrev meet : Group → Group → Bool
meet group other = not (goes group other || goes other group)

meet_flip : (group other : Group) → meet group other ≡ meet other group
meet_flip group other = flip (goes group other) (goes other group)
  where
    flip : (a b : Bool) → not (a || b) ≡ not (b || a)
    flip true true = refl
    flip true false = refl
    flip false true = refl
    flip false false = refl

goes_is : (group next : Group) → GoesBefore group next → goes group next ≡ true
goes_is group next (inl less) = grind (arith, tests)
goes_is group next (inr (same, le)) = grind (arith, tests)

goes_so : (group next : Group) → goes group next ≡ true → GoesBefore group next
goes_so group next e = elim (three (start_of group).client.0 (start_of next).client.0) [
  | inl less ↦ absurd (true≢false (sym e ∙ never less))
  | inr (inl same) ↦ inr (same, ends same)
  | inr (inr more) ↦ inl more
]
  where
    three : (m n : ℕ) → (m < n) ⊎ ((m ≡ n) ⊎ (n < m))
    three m n = grind arith

    never : (start_of group).client.0 < (start_of next).client.0 → goes group next ≡ false
    never less = grind (arith, tests)

    ends : (start_of group).client.0 ≡ (start_of next).client.0 → end_of group ≤ (start_of next).clock
    ends same = grind (arith, tests)

-- of two that do not meet, one goes before the other
one_goes : (group other : Group) → meet group other ≡ false → GoesBefore group other ⊎ GoesBefore other group
one_goes group other e = either (goes group other) refl (goes other group) refl e
  where
    either : (a : Bool) → goes group other ≡ a → (b : Bool) → goes other group ≡ b → not (a || b) ≡ false → GoesBefore group other ⊎ GoesBefore other group
    either true x b y z = inl (goes_so group other x)
    either false x true y z = inr (goes_so other group y)
    either false x false y z = absurd (true≢false z)

-- ---- in turn no two meet

none_meets : (group : Group) (groups : List Group) → Each (GoesBefore group) groups → AllByRecursion (λ other. meet group other ≡ false) groups
none_meets group [] each = tt
none_meets group (other ∷ groups) each = (ap (λ a. not (a || goes other group)) (goes_is group other each.0), none_meets group groups each.1)

turn_apart : (groups : List Group) → HaveUnits groups → AreInTurn groups → IsDistinct meet groups
unfolding IsDistinct
turn_apart [] units turn = tt
turn_apart (group ∷ groups) units turn = (none_meets group groups (goes_all group groups units.1 turn), turn_apart groups units.1 (turn_rest group groups turn))

-- ---- from a sort

-- the key by which what is lent is sorted
abbrev pub lent_key : Lent → ℕ × ℕ
lent_key lent = (18446744073709551615 - lent.id.client.0, lent.id.clock)

-- how keys compare
abbrev pub key_cmp : ℕ × ℕ → ℕ × ℕ → Ordering
key_cmp a b = ordering_then (nat_cmp a.0 b.0) (nat_cmp a.1 b.1)

-- the first key is not the greater one
abbrev ComesBy : ℕ × ℕ → ℕ × ℕ → Type 0
ComesBy a b = (a.0 < b.0) ⊎ ((a.0 ≡ b.0) × (a.1 ≤ b.1))

comes_by : (a b : ℕ × ℕ) → is_lt (key_cmp b a) ≡ false → ComesBy a b
comes_by a b h = go (nat_lt b.0 a.0) refl (nat_eq b.0 a.0) refl (nat_lt b.1 a.1) refl h
  where
    go : (p : Bool) → nat_lt b.0 a.0 ≡ p → (q : Bool) → nat_eq b.0 a.0 ≡ q → (r : Bool) → nat_lt b.1 a.1 ≡ r →
        is_lt (ordering_then (cond p Less (cond q Equal Greater)) (cond r Less (cond (nat_eq b.1 a.1) Equal Greater))) ≡ false → ComesBy a b
    go true x q y r z e = absurd (true≢false e)
    go false x true y true z e = absurd (true≢false e)
    go false x true y false z e = inr (grind (arith, tests), grind (arith, tests))
    go false x false y r z e = inl (grind (arith, tests))

-- of two that do not meet, the one that a sort puts first goes before the other
next_goes : (lent next : Lent) → IsLent lent → IsLent next → ComesBy (lent_key lent) (lent_key next) → meet (lent_group lent) (lent_group next) ≡ false →
    GoesBefore (lent_group lent) (lent_group next)
next_goes lent next is is_next by apart = elim (one_goes (lent_group lent) (lent_group next) apart) [
  | inl goes ↦ goes
  | inr back ↦ absurd (never back by)
]
  where
    in_range : (start_of (lent_group lent)).client.0 < 2 ^ 53
    in_range = is.valid.client

    next_in_range : (start_of (lent_group next)).client.0 < 2 ^ 53
    next_in_range = is_next.valid.client

    client : (start_of (lent_group lent)).client.0 ≡ lent.id.client.0
    client = ap (λ id. id.client.0) is.id

    next_client : (start_of (lent_group next)).client.0 ≡ next.id.client.0
    next_client = ap (λ id. id.client.0) is_next.id

    clock : (start_of (lent_group lent)).clock ≡ lent.id.clock
    clock = ap (λ id. id.clock) is.id

    next_clock : (start_of (lent_group next)).clock ≡ next.id.clock
    next_clock = ap (λ id. id.clock) is_next.id

    never : GoesBefore (lent_group next) (lent_group lent) → ComesBy (lent_key lent) (lent_key next) → ⊥
    never (inl less) (inl first) = omega (arith, less, first, client, next_client, in_range, next_in_range)
    never (inl less) (inr (same, le)) = omega (arith, less, same, client, next_client, in_range, next_in_range)
    never (inr (same, le)) (inl first) = omega (arith, same, first, client, next_client)
    never (inr (same, le)) (inr (also, more)) = omega (arith, le, more, clock, next_clock, have_unit (lent_group next) is_next.valid)

turn_from : (lents : List Lent) → Each IsLent lents → ((k : ℕ) (d : Lent) → suc k < length lents → ComesBy (lent_key (get_or lents k d)) (lent_key (get_or lents (suc k) d))) →
    IsDistinct meet (map lent_group lents) → AreInTurn (map lent_group lents)
unfolding IsDistinct
turn_from [] each by apart = tt
turn_from (lent ∷ []) each by apart = tt
turn_from (lent ∷ next ∷ lents) each by apart =
    (next_goes lent next each.0 each.1.0 (by 0 lent (omega arith)) apart.0.0, turn_from (next ∷ lents) each.1 (λ k d lt. by (suc k) d (omega arith)) apart.1)

sorted_by : (lents : List Lent) → IsSortedByKey lent_key key_cmp lents → (k : ℕ) (d : Lent) → suc k < length lents →
    ComesBy (lent_key (get_or lents k d)) (lent_key (get_or lents (suc k) d))
sorted_by lents s k d lt = comes_by (lent_key (get_or lents k d)) (lent_key (get_or lents (suc k) d))
    (subst (λ n. is_lt (key_cmp (lent_key (get_or lents n d)) (lent_key (get_or lents k d))) ≡ false) (add-one k) (s k d (omega arith) (omega arith)))

-- ---- lemmas for callers

-- what is sorted and not in turn is in turn in no order
pub never_in_turn : (lents sorted : List Lent) → Each IsLent lents → IsPermutation lents sorted → IsSortedByKey lent_key key_cmp sorted → (AreInTurn (map lent_group sorted) → ⊥) → AreNeverInTurn lents
never_in_turn lents sorted each p s out others q turn = out (turn_from sorted (each_permuted IsLent lents sorted p each) (sorted_by sorted s) apart)
  where
    units : HaveUnits (map lent_group others)
    units = groups_units (map lent_group others) (are_groups (map lent_group others) (of_update others (each_permuted IsLent lents others q each)))

    first : IsDistinct meet (map lent_group lents)
    first = IsDistinct-IsPermutation meet meet_flip (map lent_group others) (map lent_group lents)
        (IsPermutation-map lent_group others lents (IsPermutation-sym lents others q)) (turn_apart (map lent_group others) units turn)

    apart : IsDistinct meet (map lent_group sorted)
    apart = IsDistinct-IsPermutation meet meet_flip (map lent_group lents) (map lent_group sorted) (IsPermutation-map lent_group lents sorted p) first
