-- The smallest id of a list.
use Rattle.std.specs.Prelude.{if◌then◌else◌}
use Rattle.std.proofs.Common.{◌≡◌, Bool, true, false, List, [], ◌∷◌, Option, Some, None, inl, inr, refl, sym, ap, ◌∙◌, subst, arith, tests, true≢false}
use Rattle.std.proofs.lemmas.Bool.{cases_Bool}
use Rattle.yd_words.specs.Member.{IsIn}
use Rattle.yd_ids.specs.Ids.{is_same, is_smaller}
use Rattle.yd_ids.specs.declared.id.Id.{Id}
use Rattle.yd_ids.proofs.IdLemmas.{same_is, smaller_total}
use Rattle.yd_grouping.specs.Disagreement.{smaller_of, smallest_of}

-- the smallest id of a list is of it, and none is smaller
abbrev IsSmallest : List Id → Id → Type 0
IsSmallest xs x = IsIn x xs × ((y : Id) → IsIn y xs → is_smaller y x ≡ false)

not_smaller_itself : (x : Id) → is_smaller x x ≡ false
not_smaller_itself x = grind (arith, tests)

pub smallest_is : (xs : List Id) (x : Id) → smallest_of xs ≡ Some x → IsSmallest xs x
smallest_is [] x e = absurd cc
smallest_is (y ∷ ys) x e = subst (λ z. IsSmallest (y ∷ ys) z) (some_is (smaller_of y (smallest_of ys)) x e) (go (smallest_of ys) refl (λ z f. smallest_is ys z f))
  where
    some_is : (a b : Id) → ◌≡◌ {A = Option Id} (Some a) (Some b) → a ≡ b
    some_is a b f = cc

    go : (s : Option Id) → smallest_of ys ≡ s → ((z : Id) → smallest_of ys ≡ Some z → IsSmallest ys z) → IsSmallest (y ∷ ys) (smaller_of y s)
    go None f rest = (inl refl, λ z i. elim i [ inl g ↦ subst (λ w. is_smaller w y ≡ false) (sym g) (not_smaller_itself y) | inr j ↦ absurd (none ys f z j) ])
      where
        none : (zs : List Id) → smallest_of zs ≡ None → (z : Id) → IsIn z zs → ⊥
        none [] g z i = i
        none (w ∷ ws) g z i = absurd cc
    go (Some z) f rest = at (is_smaller z y) refl (rest z f)
      where
        through : (w : Id) → is_smaller z y ≡ false → is_smaller w z ≡ false → is_smaller w y ≡ false
        through w g h = grind (arith, tests)

        before : is_smaller z y ≡ true → is_smaller y z ≡ false
        before g = grind (arith, tests)

        at : (t : Bool) → is_smaller z y ≡ t → IsSmallest ys z → IsSmallest (y ∷ ys) (if t then z else y)
        at true g least = (inr least.0, λ w i. elim i [ inl h ↦ subst (λ v. is_smaller v z ≡ false) (sym h) (before g) | inr j ↦ least.1 w j ])
        at false g least = (inl refl, λ w i. elim i [ inl h ↦ subst (λ v. is_smaller v y ≡ false) (sym h) (not_smaller_itself y) | inr j ↦ through w g (least.1 w j) ])

one_smallest : (xs : List Id) (x y : Id) → IsSmallest xs x → IsSmallest xs y → x ≡ y
one_smallest xs x y a b = elim (cases_Bool (is_same x y)) [
  | inl same ↦ same_is x y same
  | inr other ↦ absurd (true≢false (sym (smaller_total x y other (b.1 x a.0)) ∙ a.1 y b.0))
]

pub is_smallest : (xs : List Id) (x : Id) → IsSmallest xs x → smallest_of xs ≡ Some x
is_smallest [] x least = absurd least.0
is_smallest (y ∷ ys) x least = ap (λ z. Some z) (one_smallest (y ∷ ys) (smaller_of y (smallest_of ys)) x (smallest_is (y ∷ ys) (smaller_of y (smallest_of ys)) refl) least)

pub no_smallest : (xs : List Id) → smallest_of xs ≡ None → (x : Id) → IsIn x xs → ⊥
no_smallest [] e x i = i
no_smallest (y ∷ ys) e x i = absurd cc

pub none_smallest : (xs : List Id) → ((x : Id) → IsIn x xs → ⊥) → smallest_of xs ≡ None
none_smallest [] none = refl
none_smallest (x ∷ xs) none = absurd (none x (inl refl))
