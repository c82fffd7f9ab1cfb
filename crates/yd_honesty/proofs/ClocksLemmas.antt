-- Clocks that are raised and joined.
use Rattle.std.proofs.Common.{◌≡◌, ◌≢◌, ℕ, max, ◌<◌, ◌≤◌, ◌⊎◌, Bool, true, false, nat_eq, inl, inr, List, [], ◌∷◌, ◌++◌, reverse, refl, sym, ap, ◌∙◌, subst, arith, tests, true≢false}
use Rattle.std.specs.Prelude.{if◌then◌else◌}
use Rattle.yd_words.specs.Member.{IsIn}
use Rattle.std.proofs.lemmas.List.{reverse-append}
use Rattle.yd_words.proofs.MemberLemmas.{each_in, in_with_last, in_left_part, in_right_part, in_parts}
use Rattle.yd_words.proofs.TestLemmas.{same_or_other}
use Rattle.yd_ids.specs.declared.id.Client.{Client}
use Rattle.yd_ids.specs.declared.id.Id.{Id}
use Rattle.yd_ids.specs.Id.{IsClient, IsClock}
use Rattle.yd_ids.specs.Vector.{clock_of, IsVector, RaisesOnly}
use Rattle.yd_received.specs.Received.{is_below}
use Rattle.yd_honesty.specs.Pasts.{Clocks, Grows, RaisesTo, Joins}

pub below_less : (clocks : Clocks) (x : Id) → is_below clocks x ≡ true → x.clock < clock_of clocks x.client.0
below_less clocks x e = grind (arith, tests)

pub less_below : (clocks : Clocks) (x : Id) → x.clock < clock_of clocks x.client.0 → is_below clocks x ≡ true
less_below clocks x lt = grind (arith, tests)

-- ---- one client's clock

pub raised_none : (old : Clocks) (client clock : ℕ) → clock ≤ clock_of old client → RaisesTo client clock old old false
raised_none old client clock le = record {
  grows = λ y b. b;
  raised = λ y same lt. less_below old y (subst (λ c. y.clock < clock_of old c) (sym same) (omega (arith, le, lt)));
  only = λ y b. inl b;
  same = λ e. refl;
}

pub raised_some : (old new : Clocks) (client clock : ℕ) → RaisesOnly old new client clock → RaisesTo client clock old new true
raised_some old new client clock raises = record {
  grows = λ y b. elim (same_or_other y.client.0 client) [
    | inl same ↦ less_below new y (subst (λ c. y.clock < clock_of new c) (sym same)
        (omega (arith, this, subst (λ c. y.clock < clock_of old c) same (below_less old y b))))
    | inr other ↦ less_below new y (omega (arith, raises.other_clients y.client.0 other, below_less old y b))
  ];
  raised = λ y same lt. less_below new y (subst (λ c. y.clock < clock_of new c) (sym same) (omega (arith, this, lt)));
  only = λ y b. elim (same_or_other y.client.0 client) [
    | inl same ↦ elim (less_of_max y.clock (clock_of old client) clock (omega (arith, this, subst (λ c. y.clock < clock_of new c) same (below_less new y b)))) [
      | inl lt ↦ inl (less_below old y (subst (λ c. y.clock < clock_of old c) (sym same) lt))
      | inr lt ↦ inr (same, lt)
    ]
    | inr other ↦ inl (less_below old y (omega (arith, raises.other_clients y.client.0 other, below_less new y b)))
  ];
  same = λ e. absurd (true≢false e);
}
  where
    this : (clock_of old client ≤ clock_of new client) × (clock ≤ clock_of new client) × (clock_of new client ≡ max (clock_of old client) clock)
    this = (omega (arith, raises.this_client), omega (arith, raises.this_client), raises.this_client)

    less_of_max : (k m n : ℕ) → k < max m n → (k < m) ⊎ (k < n)
    less_of_max k m n lt = grind (arith, tests)

-- ---- members of a vector

-- a member's clock is its client's
member_clock : (xs : Clocks) → IsVector xs → (e : Client × ℕ) → IsIn e xs → clock_of xs e.0.0 ≡ e.1
member_clock [] v e i = absurd i
member_clock (x ∷ xs) v e (inl f) = rw f (head x.0.0 x.1)
  where
    head : (c k : ℕ) → (if nat_eq c c then k else clock_of xs c) ≡ k
    head c k = grind (arith, tests)
member_clock (x ∷ xs) v e (inr i) = later (each_in (λ later. x.0.0 < later.0.0) xs v.3 e i) ∙ member_clock xs v.4 e i
  where
    later : x.0.0 < e.0.0 → (if nat_eq x.0.0 e.0.0 then x.1 else clock_of xs e.0.0) ≡ clock_of xs e.0.0
    later lt = grind (arith, tests)

-- what is below a vector is below a member of its client
below_member : (xs : Clocks) (y : Id) → is_below xs y ≡ true → (e : Client × ℕ) × IsIn e xs × (y.client.0 ≡ e.0.0) × (y.clock < e.1)
below_member [] y b = absurd (omega (arith, below_less [] y b))
below_member (x ∷ xs) y b = elim (same_or_other x.0.0 y.client.0) [
  | inl same ↦ (x, inl refl, sym same, here same (below_less (x ∷ xs) y b))
  | inr other ↦ let (e, i, f, lt) = below_member xs y (less_below xs y (there other (below_less (x ∷ xs) y b))) in (e, inr i, f, lt)
]
  where
    here : x.0.0 ≡ y.client.0 → y.clock < (if nat_eq x.0.0 y.client.0 then x.1 else clock_of xs y.client.0) → y.clock < x.1
    here same lt = grind (arith, tests)

    there : x.0.0 ≢ y.client.0 → y.clock < (if nat_eq x.0.0 y.client.0 then x.1 else clock_of xs y.client.0) → y.clock < clock_of xs y.client.0
    there other lt = grind (arith, tests)

-- ---- joining one vector to another, member by member

-- the members so far were raised to
pub record JoinsSo (other yielded old now : Clocks) (grew : Bool) : Type 0 where
  pub grows : Grows old now
  pub joined : (e : Client × ℕ) → IsIn e yielded → (y : Id) → y.client.0 ≡ e.0.0 → y.clock < e.1 → is_below now y ≡ true
  pub only : (y : Id) → is_below now y ≡ true → (is_below old y ≡ true) ⊎ (is_below other y ≡ true)
  pub same : grew ≡ false → now ≡ old

pub joins_none : (other old : Clocks) → JoinsSo other [] old old false
joins_none other old = record { grows = λ y b. b; joined = λ e i. absurd i; only = λ y b. inl b; same = λ e. refl }

module _ (other : Clocks) (v : IsVector other) (old now new : Clocks) (yielded back : Clocks) (e : Client × ℕ) (there : IsIn e other) (grew more all : Bool)
    (so : JoinsSo other yielded old now grew) (step : RaisesTo e.0.0 e.1 now new more) (grows : all ≡ false → (grew ≡ false) × (more ≡ false)) where
  pub joins_more : JoinsSo other (yielded ++ e ∷ []) old new all
  joins_more = record {
    grows = λ y b. step.grows y (so.grows y b);
    joined = λ f i y same lt. elim (in_with_last yielded e f i) [
      | inl j ↦ step.grows y (so.joined f j y same lt)
      | inr last ↦ step.raised y (same ∙ ap (λ (g : Client × ℕ). g.0.0) last) (subst (λ (g : Client × ℕ). y.clock < g.1) last lt)
    ];
    only = λ y b. elim (step.only y b) [
      | inl before ↦ so.only y before
      | inr raised ↦ inr (less_below other y (subst (λ c. y.clock < clock_of other c) (sym raised.0) (omega (arith, member_clock other v e there, raised.1))))
    ];
    same = λ f. step.same (grows f).1 ∙ so.same (grows f).0;
  }

pub joins_all : (other yielded old new : Clocks) (grew : Bool) → ((e : Client × ℕ) → IsIn e other → IsIn e yielded) → JoinsSo other yielded old new grew → Joins other old new grew
joins_all other yielded old new grew all so = record {
  grows = so.grows;
  joined = λ y b. let (e, i, same, lt) = below_member other y b in so.joined e (all e i) y same lt;
  only = so.only;
  same = so.same;
}

-- ---- the members, one after another from the last

in_reverse : {X : Type 0} (xs : List X) (x : X) → IsIn x (reverse xs) → IsIn x xs
in_reverse [] x i = i
in_reverse (y ∷ ys) x i = elim (in_with_last (reverse ys) y x (subst (λ zs. IsIn x zs) (reverse-append (y ∷ []) ys) i)) [
  | inl j ↦ inr (in_reverse ys x j)
  | inr e ↦ inl e
]

reverse_in : {X : Type 0} (xs : List X) (x : X) → IsIn x xs → IsIn x (reverse xs)
reverse_in [] x i = i
reverse_in (y ∷ ys) x (inl e) = subst (λ zs. IsIn x zs) (sym (reverse-append (y ∷ []) ys)) (in_right_part x (reverse ys) (y ∷ []) (inl e))
reverse_in (y ∷ ys) x (inr i) = subst (λ zs. IsIn x zs) (sym (reverse-append (y ∷ []) ys)) (in_left_part x (reverse ys) (y ∷ []) (reverse_in ys x i))

-- what comes next is a member
pub next_member : (other yielded back rest : Clocks) (e : Client × ℕ) → yielded ++ back ≡ reverse other → back ≡ e ∷ rest → IsIn e other
next_member other yielded back rest e all steps = in_reverse other e (subst (λ xs. IsIn e xs) all
    (in_right_part e yielded back (subst (λ xs. IsIn e xs) (sym steps) (inl refl))))

pub next_all : {X : Type 0} (front back rest whole : List X) (x : X) → front ++ back ≡ whole → back ≡ x ∷ rest → (front ++ x ∷ []) ++ rest ≡ whole
next_all {X = X} front back rest whole x all steps = moved front ∙ ap (λ xs. front ++ xs) (sym steps) ∙ all
  where
    moved : (xs : List X) → (xs ++ x ∷ []) ++ rest ≡ xs ++ x ∷ rest
    moved [] = refl
    moved (y ∷ ys) = ap (λ zs. y ∷ zs) (moved ys)

-- at the end all have come
pub ends_member : (other yielded back : Clocks) → yielded ++ back ≡ reverse other → back ≡ [] → (e : Client × ℕ) → IsIn e other → IsIn e yielded
ends_member other yielded back all none e i = elim (in_parts e yielded back (subst (λ xs. IsIn e xs) (sym all) (reverse_in other e i))) [
  | inl j ↦ j
  | inr j ↦ absurd (subst (λ xs. IsIn e xs) none j)
]

pub member_in_range : (xs : Clocks) → IsVector xs → (e : Client × ℕ) → IsIn e xs → IsClient e.0 × IsClock e.1
member_in_range [] v e i = absurd i
member_in_range (x ∷ xs) v e (inl f) = subst (λ (g : Client × ℕ). IsClient g.0 × IsClock g.1) (sym f) (v.0, v.2)
member_in_range (x ∷ xs) v e (inr i) = member_in_range xs v.4 e i
