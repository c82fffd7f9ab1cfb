-- Tests of the edit rules on small sets, which the checker computes.
use Rattle.std.proofs.Common.{◌≡◌, ◌≢◌, ◌<◌, Bool, true, false, ◌||◌, ◌&&◌, List, [], ◌∷◌, inl, inr, Some, None, Option, nat_lt, nat_eq, not, refl, sym, ap, ◌∙◌, subst, arith, tests, true≢false}
use Rattle.std.specs.Prelude.{IfSome}
use Rattle.yd_words.specs.Member.{IsIn}
use Rattle.yd_words.proofs.OptionLemmas.{some_is}
use Rattle.yd_words.proofs.TestLemmas.{both_hold}
use Rattle.yd_ids.specs.declared.id.Id.{Id}
use Rattle.yd_ids.specs.Ids.{is_same, HasSmallerClock, has_id}
use Rattle.yd_ids.proofs.IdLemmas.{other_id, differs, has_is}
use Rattle.yd_origins.specs.Table.{OriginTable, ids_of, left_of, right_of}
use Rattle.yd_origins.specs.Before.{is_before, IsLeftFirst, IsBetween}
use Rattle.yd_origins.specs.Operations.{ListNames, OperationSet, list_of_operation, parent_item, table_of_all, MeetsRules, past_of, of_left, of_right, of_parent, of_clock, of_past}

-- ---- tests of the edit rules

-- the neighbour is absent or among the ids
abbrev is_among : List Id → Option Id → Bool
is_among seen None = true
is_among seen (Some x) = has_id seen x

-- the ids of x's client with smaller clocks are among the ids
abbrev has_clocks : List Id → Id → List Id → Bool
has_clocks seen x [] = true
has_clocks seen x (y ∷ ys) = (not (nat_eq y.client.0 x.client.0 && nat_lt y.clock x.clock) || has_id seen y) && has_clocks seen x ys

-- the left, the right, the parent item and the smaller clocks of x are among the ids
abbrev has_direct : {Name : Type 0} {names : ListNames Name} → OperationSet names → List Id → Id → Bool
has_direct set seen x = is_among seen (left_of set.origins x)
    && (is_among seen (right_of set.origins x) && (is_among seen (parent_item set x) && has_clocks seen x (ids_of set.origins)))

abbrev have_direct : {Name : Type 0} {names : ListNames Name} → OperationSet names → List Id → List Id → Bool
have_direct set seen [] = true
have_direct set seen (x ∷ xs) = has_direct set seen x && have_direct set seen xs

-- y is behind a left, and before a right
abbrev is_behind : OriginTable → Option Id → Id → Bool
is_behind table None y = true
is_behind table (Some p) y = is_before table p y

abbrev is_in_front : OriginTable → Option Id → Id → Bool
is_in_front table None y = true
is_in_front table (Some r) y = not (is_same y r) && is_before table y r

abbrev are_outside : OriginTable → Option Id → Option Id → List Id → Bool
are_outside table left right [] = true
are_outside table left right (y ∷ ys) = not (is_behind table left y && is_in_front table right y) && are_outside table left right ys

abbrev is_left_first : OriginTable → Option Id → Option Id → Bool
is_left_first table None right = true
is_left_first table (Some p) None = true
is_left_first table (Some p) (Some r) = not (is_same p r) && is_before table p r

-- the left and the right are of one list, where both are there
abbrev are_of_one_list : {Name : Type 0} {names : ListNames Name} → OperationSet names → Option Id → Option Id → Bool
are_of_one_list set None right = true
are_of_one_list set (Some p) None = true
are_of_one_list {Name} {names} set (Some p) (Some r) = names.is_same (list_of_operation set p) (list_of_operation set r)

-- the past of x is among the ids, its left is before its right and of one list with it, and none of the ids stands between them
abbrev pub keeps_rules : {Name : Type 0} {names : ListNames Name} → OperationSet names → List Id → Id → Bool
keeps_rules set seen x = (has_direct set seen x && have_direct set seen seen)
    && (are_of_one_list set (left_of set.origins x) (right_of set.origins x)
    && (is_left_first (table_of_all set) (left_of set.origins x) (right_of set.origins x)
    && are_outside (table_of_all set) (left_of set.origins x) (right_of set.origins x) seen))

-- ---- what the tests say

among_is : (seen : List Id) (z : Option Id) (y : Id) → is_among seen z ≡ true → z ≡ Some y → IsIn y seen
among_is seen None y e g = absurd (none_some g)
  where
    none_some : ◌≡◌ {A = Option Id} None (Some y) → ⊥
    none_some f = cc
among_is seen (Some x) y e g = has_is seen y (ap (has_id seen) (some_is y x (sym g)) ∙ e)

clocks_are : (seen : List Id) (x : Id) (ys : List Id) (y : Id) → has_clocks seen x ys ≡ true → IsIn y ys → HasSmallerClock y x → IsIn y seen
clocks_are seen x [] y e i c = absurd i
clocks_are seen x (z ∷ zs) y e (inl g) c = has_is seen y (subst (λ v. has_id seen v ≡ true) (sym g)
    (unless (nat_eq z.client.0 x.client.0) (nat_lt z.clock x.clock) (has_id seen z)
    same_client_number less (both_hold (not (nat_eq z.client.0 x.client.0 && nat_lt z.clock x.clock) || has_id seen z) (has_clocks seen x zs) e).0))
  where
    numbers : (z.client.0 ≡ x.client.0) × (z.clock < x.clock)
    numbers = subst (λ v. (v.client.0 ≡ x.client.0) × (v.clock < x.clock)) g (ap (λ v. v.0) c.0, c.1)

    same_client_number : nat_eq z.client.0 x.client.0 ≡ true
    same_client_number = grind (arith, tests, numbers.0)

    less : nat_lt z.clock x.clock ≡ true
    less = grind (arith, tests, numbers.1)

    unless : (s t u : Bool) → s ≡ true → t ≡ true → (not (s && t) || u) ≡ true → u ≡ true
    unless s t u p q r = grind (arith, tests)
clocks_are seen x (z ∷ zs) y e (inr i) c = clocks_are seen x zs y (both_hold (not (nat_eq z.client.0 x.client.0 && nat_lt z.clock x.clock) || has_id seen z)
    (has_clocks seen x zs) e).1 i c

direct_at : {Name : Type 0} {names : ListNames Name} (set : OperationSet names) (seen xs : List Id) (x : Id) → have_direct set seen xs ≡ true → IsIn x xs →
    has_direct set seen x ≡ true
direct_at set seen [] x e i = absurd i
direct_at set seen (z ∷ zs) x e (inl g) = ap (has_direct set seen) g ∙ (both_hold (has_direct set seen z) (have_direct set seen zs) e).0
direct_at set seen (z ∷ zs) x e (inr i) = direct_at set seen zs x (both_hold (has_direct set seen z) (have_direct set seen zs) e).1 i

-- what the test of x says of each
module _ {Name : Type 0} {names : ListNames Name} (set : OperationSet names) (seen : List Id) (x : Id) (d : has_direct set seen x ≡ true) where
  abbrev clocks : Bool
  clocks = has_clocks seen x (ids_of set.origins)

  abbrev item : Bool
  item = is_among seen (parent_item set x)

  abbrev right : Bool
  right = is_among seen (right_of set.origins x)

  abbrev left : Bool
  left = is_among seen (left_of set.origins x)

  left_seen : left ≡ true
  left_seen = (both_hold left (right && (item && clocks)) d).0

  right_seen : right ≡ true
  right_seen = (both_hold right (item && clocks) (both_hold left (right && (item && clocks)) d).1).0

  item_seen : item ≡ true
  item_seen = (both_hold item clocks (both_hold right (item && clocks) (both_hold left (right && (item && clocks)) d).1).1).0

  clocks_seen : clocks ≡ true
  clocks_seen = (both_hold item clocks (both_hold right (item && clocks) (both_hold left (right && (item && clocks)) d).1).1).1

-- the past of an operation with this test is among the ids
past_seen : {Name : Type 0} {names : ListNames Name} (set : OperationSet names) (seen : List Id) → have_direct set seen seen ≡ true → {x y : Id} → past_of set x y →
    has_direct set seen x ≡ true → IsIn y seen
past_seen set seen all (of_left {x = x} {y = y} e) d = among_is seen (left_of set.origins x) y (left_seen set seen x d) e
past_seen set seen all (of_right {x = x} {y = y} e) d = among_is seen (right_of set.origins x) y (right_seen set seen x d) e
past_seen set seen all (of_parent {x = x} {y = y} e) d = among_is seen (parent_item set x) y (item_seen set seen x d) e
past_seen set seen all (of_clock {x = x} {y = y} i c) d = clocks_are seen x (ids_of set.origins) y (clocks_seen set seen x d) i c
past_seen set seen all (of_past {y = z} r s) d = past_seen set seen all s (direct_at set seen seen z all (past_seen set seen all r d))

left_first_is : (table : OriginTable) (z w : Option Id) → is_left_first table z w ≡ true → IsLeftFirst (is_before table) z w
left_first_is table None w e = tt
left_first_is table (Some p) None e = tt
left_first_is table (Some p) (Some r) e = (
  differs p r (is_false (is_same p r) (both_hold (not (is_same p r)) (is_before table p r) e).0),
  (both_hold (not (is_same p r)) (is_before table p r) e).1,
)
  where
    is_false : (t : Bool) → not t ≡ true → t ≡ false
    is_false t f = grind (arith, tests)

between_passes : (table : OriginTable) (z w : Option Id) (y : Id) → IsBetween (is_before table) z w y → (is_behind table z y && is_in_front table w y) ≡ true
between_passes table z w y between = rw (behind_passes z between.0, front_passes w between.1) refl
  where
    behind_passes : (z : Option Id) → IfSome z (λ p. (p ≢ y) × (is_before table p y ≡ true)) → is_behind table z y ≡ true
    behind_passes None g = refl
    behind_passes (Some p) g = g.1

    front_passes : (w : Option Id) → IfSome w (λ r. (y ≢ r) × (is_before table y r ≡ true)) → is_in_front table w y ≡ true
    front_passes None g = refl
    front_passes (Some r) g = rw (other_id y r g.0, g.1) refl

outside_at : (table : OriginTable) (z w : Option Id) (ys : List Id) (y : Id) → are_outside table z w ys ≡ true → IsIn y ys → IsBetween (is_before table) z w y →
    ⊥
outside_at table z w [] y e i between = i
outside_at table z w (x ∷ xs) y e (inl g) between = true≢false (sym (between_passes table z w x (subst (λ v. IsBetween (is_before table) z w v) g between))
    ∙ is_false (is_behind table z x && is_in_front table w x) (both_hold (not (is_behind table z x && is_in_front table w x)) (are_outside table z w xs) e).0)
  where
    is_false : (t : Bool) → not t ≡ true → t ≡ false
    is_false t f = grind (arith, tests)
outside_at table z w (x ∷ xs) y e (inr i) between = outside_at table z w xs y
    (both_hold (not (is_behind table z x && is_in_front table w x)) (are_outside table z w xs) e).1 i between

one_list_is : {Name : Type 0} {names : ListNames Name} (set : OperationSet names) (z w : Option Id) (p r : Id) → are_of_one_list set z w ≡ true →
    z ≡ Some p → w ≡ Some r → list_of_operation set p ≡ list_of_operation set r
one_list_is set None w p r e f g = absurd (none_some f)
  where
    none_some : ◌≡◌ {A = Option Id} None (Some p) → ⊥
    none_some h = cc
one_list_is set (Some q) None p r e f g = absurd (none_some g)
  where
    none_some : ◌≡◌ {A = Option Id} None (Some r) → ⊥
    none_some h = cc
one_list_is {Name} {names} set (Some q) (Some s) p r e f g = ap (list_of_operation set) (sym (some_is q p f))
    ∙ (names.decides (list_of_operation set q) (list_of_operation set s)).0 e
    ∙ ap (list_of_operation set) (some_is s r g)

-- ---- lemmas for callers

module _ {Name : Type 0} {names : ListNames Name} (set : OperationSet names) (seen : List Id) (x : Id) (e : keeps_rules set seen x ≡ true) where
  abbrev all : OriginTable
  all = table_of_all set

  abbrev z : Option Id
  z = left_of set.origins x

  abbrev w : Option Id
  w = right_of set.origins x

  abbrev inner : Bool
  inner = is_left_first all z w && are_outside all z w seen

  direct : (has_direct set seen x ≡ true) × (have_direct set seen seen ≡ true)
  direct = both_hold (has_direct set seen x) (have_direct set seen seen)
      (both_hold (has_direct set seen x && have_direct set seen seen) (are_of_one_list set z w && inner) e).0

  lists : (are_of_one_list set z w ≡ true) × (inner ≡ true)
  lists = both_hold (are_of_one_list set z w) inner (both_hold (has_direct set seen x && have_direct set seen seen) (are_of_one_list set z w && inner) e).1

  outer : (is_left_first all z w ≡ true) × (are_outside all z w seen ≡ true)
  outer = both_hold (is_left_first all z w) (are_outside all z w seen) lists.1

  pub meets_rules : MeetsRules set x
  meets_rules = record {
    one_list = λ p r f g. one_list_is set z w p r lists.0 f g;
    left_first = left_first_is all z w outer.0;
    past_outside = λ y i past same between. outside_at all z w seen y outer.1 (past_seen set seen direct.1 past direct.0) between;
  }
