-- Crowds: what a bisection finds, and how they gain a number and lose some.
use Rattle.std.proofs.Common.{◌≡◌, ◌≢◌, ◌∙◌, ℕ, zero, suc, ◌<◌, ◌≤◌, ◌+◌, ◌-◌, ◌/◌, inl, inr, Bool, true, false, List, [], ◌∷◌, ◌++◌, Some, Less, Greater, Ordering, get_or, length, take, drop, refl, sym, ap, subst, arith, tests, true≢false, nat_lt}
use Rattle.std.specs.Prelude.{slice_get, filter}
use Rattle.std.specs.Ordering.{is_eq, is_lt, is_gt, ordering_reverse}
use Rattle.std.specs.declared.cmp.Ordering.TheVariants.{Equal}
use Rattle.std.specs.Cmp.{IsTotalOrder}
use Rattle.std.proofs.lemmas.Cmp.{alike_right}
use Rattle.std.proofs.lemmas.Option.{slice_get_within, slice_get-get_or}
use Rattle.yd_ops.specs.declared.lists.List.{List as DocList}
use Rattle.yd_words.proofs.OptionLemmas.{some_is}
use Rattle.yd_words.proofs.TestLemmas.{split}
use Rattle.yd_names.specs.Crowds.{IsInOrder, IsCrowd, IsPlace, IsTied, IsJoined}
use Rattle.yd_names.proofs.CodesLemmas.{got_last, got_front, one_longer}
use Rattle.yd_names.proofs.InsertingLemmas.{got_inserted, inserted_here, inserted_others, left_from, left_passes, left_in_order}

-- ---- the name with a number of a crowd

module _ {cmp : DocList → DocList → Ordering} (crowd : List ℕ) (names : List DocList) (place : ℕ) where
  pub name_inside : IsCrowd cmp names crowd → place < length crowd → get_or crowd place 0 < length names
  name_inside c lt = c.inside (get_or crowd place 0) (place, slice_get-get_or crowd place 0 lt)

  pub name_here : (one : DocList) → IsCrowd cmp names crowd → place < length crowd → one ≡ get_or names (get_or crowd place 0) one →
      slice_get names (get_or crowd place 0) ≡ Some one
  name_here one c lt e = slice_get-get_or names (get_or crowd place 0) one (name_inside c lt) ∙ ap (λ a. Some a) (sym e)

-- ---- places by the order

reverse_lt : (o : Ordering) → is_lt (ordering_reverse o) ≡ is_gt o
reverse_lt Less = refl
reverse_lt Equal = refl
reverse_lt Greater = refl

reverse_gt : (o : Ordering) → is_gt (ordering_reverse o) ≡ is_lt o
reverse_gt Less = refl
reverse_gt Equal = refl
reverse_gt Greater = refl

less : (o : Ordering) → is_lt o ≡ true → o ≡ Less
less Less e = refl
less Equal e = absurd (true≢false (sym e))
less Greater e = absurd (true≢false (sym e))

pub is_equal : (o : Ordering) → is_eq o ≡ true → o ≡ Equal
is_equal Less e = absurd (true≢false (sym e))
is_equal Equal e = refl
is_equal Greater e = absurd (true≢false (sym e))

pub not_equal : (o : Ordering) → is_eq o ≡ false → o ≢ Equal
not_equal o e same = true≢false (sym (ap is_eq same) ∙ e)

neither : (o : Ordering) → is_lt o ≡ false → is_gt o ≡ false → o ≡ Equal
neither Less e f = absurd (true≢false e)
neither Equal e f = refl
neither Greater e f = absurd (true≢false f)

module _ (cmp : DocList → DocList → Ordering) (total : IsTotalOrder cmp) where
  -- what is not behind a name that is before another is before it too
  before_too : (a b c : DocList) → is_gt (cmp a b) ≡ false → is_lt (cmp b c) ≡ true → is_lt (cmp a c) ≡ true
  before_too a b c le lt = go (cmp a b) refl le
    where
      go : (o : Ordering) → cmp a b ≡ o → is_gt o ≡ false → is_lt (cmp a c) ≡ true
      go Less e f = ap is_lt (total.trans a b c e (less (cmp b c) lt))
      go Equal e f = ap is_lt (total.congr a b c e) ∙ lt
      go Greater e f = absurd (true≢false f)

  not_before : (o : Bool) → (o ≡ true → ⊥) → o ≡ false
  not_before true n = absurd (n refl)
  not_before false n = refl

  module _ (names : List DocList) (crowd : List ℕ) (name : DocList) where
    -- a bisection is under way: what is below `low` is before the name, and from `high` on nothing is
    pub record IsHalving (low high : ℕ) : Type 0 where
      pub upward : low ≤ high
      pub within : high ≤ length crowd
      pub front : (i n : ℕ) (a : DocList) → i < low → slice_get crowd i ≡ Some n → slice_get names n ≡ Some a → is_lt (cmp a name) ≡ true
      pub rest : (i n : ℕ) (a : DocList) → high ≤ i → slice_get crowd i ≡ Some n → slice_get names n ≡ Some a → is_lt (cmp a name) ≡ false

    pub halving_begins : IsHalving 0 (length crowd)
    halving_begins = record {
      upward = omega arith;
      within = omega arith;
      front = λ i n a lt e f. absurd (omega arith);
      rest = λ i n a le e f. let lt = slice_get_within crowd i n e in absurd (omega arith);
    }

    pub halving_ends : (low high : ℕ) → IsHalving low high → high ≤ low → IsPlace cmp names crowd name low
    halving_ends low high h le = let same : low ≡ high = (let up = h.upward in omega arith) in record {
      within = let up = h.within in omega arith;
      front = h.front;
      rest = λ i n a less e f. h.rest i n a (omega arith) e f;
    }

    module _ (sorted : IsInOrder cmp names crowd) (low high middle : ℕ) (h : IsHalving low high) (number : ℕ) (one : DocList)
        (at : slice_get crowd middle ≡ Some number) (there : slice_get names number ≡ Some one) where
      pub goes_up : middle < high → is_lt (cmp one name) ≡ true → IsHalving (suc middle) high
      goes_up below lt = record {
        upward = omega arith;
        within = h.within;
        front = λ i n a less e f. elim (split middle i) [
          | inl ge ↦ let same : i ≡ middle = omega arith in
              let numbers : n ≡ number = some_is n number (sym e ∙ ap (λ i. slice_get crowd i) same ∙ at) in
              subst (λ a. is_lt (cmp a name) ≡ true) (some_is one a (sym there ∙ ap (λ n. slice_get names n) (sym numbers) ∙ f)) lt
          | inr under ↦ before_too a one name (sorted i middle n number under e at a one f there) lt
        ];
        rest = h.rest;
      }

      pub goes_under : low ≤ middle → middle < high → is_lt (cmp one name) ≡ false → IsHalving low middle
      goes_under above below not = record {
        upward = above;
        within = let up = h.within in omega arith;
        front = h.front;
        rest = λ i n a le e f. elim (split i middle) [
          | inl ge ↦ let same : i ≡ middle = omega arith in
              let numbers : n ≡ number = some_is n number (sym e ∙ ap (λ i. slice_get crowd i) same ∙ at) in
              subst (λ a. is_lt (cmp a name) ≡ false) (some_is one a (sym there ∙ ap (λ n. slice_get names n) (sym numbers) ∙ f)) not
          | inr over ↦ not_before (is_lt (cmp a name))
              (λ lt. true≢false (sym (before_too one a name (sorted middle i number n over at e one a there f) lt) ∙ not))
        ];
      }

    -- ---- the middle place of a bisection

    module _ (c : IsCrowd cmp names crowd) (low high : ℕ) (h : IsHalving low high) (lt : low < high) where
      middle_at : slice_get crowd (low + (high - low) / 2) ≡ Some (get_or crowd (low + (high - low) / 2) 0)
      middle_at = slice_get-get_or crowd (low + (high - low) / 2) 0 (let up = h.within in omega arith)

      pub middle_inside : get_or crowd (low + (high - low) / 2) 0 < length names
      middle_inside = c.inside (get_or crowd (low + (high - low) / 2) 0) (low + (high - low) / 2, middle_at)

      name_at : (one : DocList) → one ≡ get_or names (get_or crowd (low + (high - low) / 2) 0) one → slice_get names (get_or crowd (low + (high - low) / 2) 0) ≡ Some one
      name_at one e = slice_get-get_or names (get_or crowd (low + (high - low) / 2) 0) one middle_inside ∙ ap (λ a. Some a) (sym e)

      pub halved_up : (one : DocList) → one ≡ get_or names (get_or crowd (low + (high - low) / 2) 0) one → is_lt (cmp one name) ≡ true → IsHalving (low + (high - low) / 2 + 1) high
      halved_up one e before = let next : suc (low + (high - low) / 2) ≡ low + (high - low) / 2 + 1 = omega arith in
          subst (λ n. IsHalving n high) next
          (goes_up c.sorted low high (low + (high - low) / 2) h (get_or crowd (low + (high - low) / 2) 0) one middle_at (name_at one e) (omega arith) before)

      pub halved_under : (one : DocList) → one ≡ get_or names (get_or crowd (low + (high - low) / 2) 0) one → is_lt (cmp one name) ≡ false → IsHalving low (low + (high - low) / 2)
      halved_under one e not =
          goes_under c.sorted low high (low + (high - low) / 2) h (get_or crowd (low + (high - low) / 2) 0) one middle_at (name_at one e) (omega arith) (omega arith) not

    -- behind the last place there is none
    pub not_behind : (place : ℕ) → IsPlace cmp names crowd name place → length crowd ≤ place → (n : ℕ) → IsTied cmp names crowd name n → ⊥
    not_behind place p le n t = let (i, e) = t.at in true≢false (sym (p.front i n t.list (let lt = slice_get_within crowd i n e in omega arith) e t.there) ∙ ap is_lt t.tied)

    -- and where another stands at the place, there is none either
    pub not_elsewhere : (place number : ℕ) (other : DocList) → IsInOrder cmp names crowd → IsPlace cmp names crowd name place → slice_get crowd place ≡ Some number →
        slice_get names number ≡ Some other → cmp other name ≢ Equal → (n : ℕ) → IsTied cmp names crowd name n → ⊥
    not_elsewhere place number other sorted p at there apart n t = go t.at.0 t.list t.at.1 t.there t.tied
      where
        up_to : (i : ℕ) (one : DocList) → slice_get crowd i ≡ Some n → slice_get names n ≡ Some one → cmp one name ≡ Equal → place ≤ i → is_gt (cmp other name) ≡ false
        up_to i one e f tied le = elim (split i place) [
          | inl ge ↦ let same : i ≡ place = omega arith in
              let numbers : n ≡ number = some_is n number (sym e ∙ ap (λ i. slice_get crowd i) same ∙ at) in
              let is : other ≡ one = some_is other one (sym there ∙ ap (λ n. slice_get names n) (sym numbers) ∙ f) in
              ap (λ a. is_gt (cmp a name)) is ∙ ap is_gt tied
          | inr less ↦ ap is_gt (total.antisymm other name ∙ ap ordering_reverse (sym (total.congr one name other tied)) ∙ sym (total.antisymm other one))
              ∙ sorted place i number n less at e other one there f
        ]

        go : (i : ℕ) (one : DocList) → slice_get crowd i ≡ Some n → slice_get names n ≡ Some one → cmp one name ≡ Equal → ⊥
        go i one e f tied = elim (split place i) [
          | inl le ↦ apart (neither (cmp other name) (p.rest place number other (omega arith) at there) (up_to i one e f tied le))
          | inr lt ↦ true≢false (sym (p.front i n one lt e f) ∙ ap is_lt tied)
        ]

    -- what is as another has the same place
    pub placed_alike : (other : DocList) (place : ℕ) → cmp name other ≡ Equal → IsPlace cmp names crowd other place → IsPlace cmp names crowd name place
    placed_alike other place tied p = record {
      within = p.within;
      front = λ i n a lt e f. ap is_lt (alike_right total name other a tied) ∙ p.front i n a lt e f;
      rest = λ i n a le e f. ap is_lt (alike_right total name other a tied) ∙ p.rest i n a le e f;
    }

    -- ---- one name more

    -- numbers of a crowd have names below the one that comes
    below_old : IsCrowd cmp names crowd → (i n : ℕ) (a : DocList) → slice_get crowd i ≡ Some n → slice_get (names ++ name ∷ []) n ≡ Some a → slice_get names n ≡ Some a
    below_old c i n a e f = sym (got_front name names n (c.inside n (i, e))) ∙ f

    new_is : (a : DocList) → slice_get (names ++ name ∷ []) (length names) ≡ Some a → name ≡ a
    new_is a f = some_is name a (sym (got_last name names (length names) refl) ∙ f)

    not_less_back : (a : DocList) → is_lt (cmp a name) ≡ false → is_gt (cmp name a) ≡ false
    not_less_back a e = ap is_gt (total.antisymm name a) ∙ reverse_gt (cmp a name) ∙ e

    less_up : (o : Ordering) → is_lt o ≡ true → is_gt o ≡ false
    less_up Less e = refl
    less_up Equal e = refl
    less_up Greater e = absurd (true≢false (sym e))

    pub joined : (place : ℕ) → IsCrowd cmp names crowd → IsPlace cmp names crowd name place → IsJoined cmp names name crowd (take place crowd ++ length names ∷ drop place crowd)
    joined place c p = record {
      all = record {
        inside = λ n (i, e). let long = one_longer name names in elim (got_inserted place crowd (length names) i n p.within e) [
          | inl (lt, f) ↦ let lt = c.inside n (i, f) in omega arith
          | inr (inl (same, f)) ↦ omega arith
          | inr (inr (j, same, le, f)) ↦ let lt = c.inside n (j, f) in omega arith
        ];
        sorted = λ i j m n lt e f a b g h. elim (got_inserted place crowd (length names) i m p.within e) [
          | inl (lt_i, e') ↦ elim (got_inserted place crowd (length names) j n p.within f) [
            | inl (lt_j, f') ↦ c.sorted i j m n lt e' f' a b (below_old c i m a e' g) (below_old c j n b f' h)
            | inr (inl (same_j, f')) ↦ subst (λ b. is_gt (cmp a b) ≡ false) (new_is b (ap (λ n. slice_get (names ++ name ∷ []) n) f' ∙ h))
                (less_up (cmp a name) (p.front i m a lt_i e' (below_old c i m a e' g)))
            | inr (inr (l, same_j, le_j, f')) ↦ c.sorted i l m n (omega arith) e' f' a b (below_old c i m a e' g) (below_old c l n b f' h)
          ]
          | inr (inl (same_i, e')) ↦ elim (got_inserted place crowd (length names) j n p.within f) [
            | inl (lt_j, f') ↦ absurd (omega arith)
            | inr (inl (same_j, f')) ↦ absurd (omega arith)
            | inr (inr (l, same_j, le_j, f')) ↦ subst (λ a. is_gt (cmp a b) ≡ false) (new_is a (ap (λ n. slice_get (names ++ name ∷ []) n) e' ∙ g))
                (not_less_back b (p.rest l n b le_j f' (below_old c l n b f' h)))
          ]
          | inr (inr (k, same_i, le_i, e')) ↦ elim (got_inserted place crowd (length names) j n p.within f) [
            | inl (lt_j, f') ↦ absurd (omega arith)
            | inr (inl (same_j, f')) ↦ absurd (omega arith)
            | inr (inr (l, same_j, le_j, f')) ↦ c.sorted k l m n (omega arith) e' f' a b (below_old c k m a e' g) (below_old c l n b f' h)
          ]
        ];
      };
      here = (place, inserted_here place crowd (length names) p.within);
      others = λ n. inserted_others place crowd (length names) n p.within;
    }

-- ---- names that come beside a crowd, and some that go

-- a name more that does not join
pub beside : (cmp : DocList → DocList → Ordering) (names : List DocList) (name : DocList) (crowd : List ℕ) → IsCrowd cmp names crowd → IsCrowd cmp (names ++ name ∷ []) crowd
beside cmp names name crowd c = record {
  inside = λ n at. let lt = c.inside n at in let long = one_longer name names in omega arith;
  sorted = λ i j m n lt e f a b g h. c.sorted i j m n lt e f a b
      (sym (got_front name names m (c.inside m (i, e))) ∙ g) (sym (got_front name names n (c.inside n (j, f))) ∙ h);
}

got_in_take : (k : ℕ) (xs : List DocList) (n : ℕ) (x : DocList) → slice_get (take k xs) n ≡ Some x → slice_get xs n ≡ Some x
got_in_take zero xs n x e = absurd cc
got_in_take (suc k) [] n x e = absurd cc
got_in_take (suc k) (y ∷ ys) zero x e = e
got_in_take (suc k) (y ∷ ys) (suc n) x e = got_in_take k ys n x e

in_take : (k n : ℕ) (xs : List DocList) → n < k → n < length xs → n < length (take k xs)
in_take zero n xs lt less = absurd (omega arith)
in_take (suc k) n [] lt less = absurd (omega arith)
in_take (suc k) zero (x ∷ xs) lt less = omega arith
in_take (suc k) (suc n) (x ∷ xs) lt less = let within : n < length (take k xs) = in_take k n xs (omega arith) (omega arith) in omega arith

is_below : (m n : ℕ) → nat_lt m n ≡ true → m < n
is_below m n e = grind (arith, tests)

-- the first names keep their numbers
pub shortened : (cmp : DocList → DocList → Ordering) (names : List DocList) (crowd : List ℕ) (len : ℕ) → IsCrowd cmp names crowd →
    IsCrowd cmp (take len names) (filter (λ n. nat_lt n len) crowd)
shortened cmp names crowd len c = record {
  inside = λ n (i, e). let (j, le, f) = left_from (λ n. nat_lt n len) crowd i n e in
      in_take len n names (is_below n len (left_passes (λ n. nat_lt n len) crowd n (i, e))) (c.inside n (j, f));
  sorted = λ i j m n lt e f a b g h. left_in_order (λ n. nat_lt n len) cmp names crowd c.sorted i j m n lt e f a b
      (got_in_take len names m a g) (got_in_take len names n b h);
}
