-- Ids: when two are one, and that of two the smaller and the one that is written first are told.
use Rattle.std.proofs.Common.{◌≡◌, ◌≢◌, ◌+◌, ◌≤◌, ◌<◌, Bool, true, false, List, [], ◌∷◌, Option, Some, None, inl, inr, refl, sym, ◌∙◌, subst, arith, tests, true≢false}
use Rattle.yd_words.specs.Member.{IsIn}
use Rattle.yd_words.specs.Test.{one_if}
use Rattle.yd_words.proofs.TestLemmas.{Says, one_if_at_most}
use Rattle.yd_ids.specs.declared.id.Id.{Id}
use Rattle.yd_ids.specs.Ids.{is_same, is_smaller, is_written_before, is_same_neighbour, has_id}

-- ---- one id

-- two ids with the same numbers are one
pub same_numbers : (a b : Id) → a.client.0 ≡ b.client.0 → a.clock ≡ b.clock → a ≡ b
same_numbers a b clients clocks = λ i. record { client = record { 0 = clients i }; clock = clocks i }

pub same_client : (a b : Id) → a.client.0 ≡ b.client.0 → a.client ≡ b.client
same_client a b e = λ i. record { 0 = e i }

pub same_is : (a b : Id) → is_same a b ≡ true → a ≡ b
same_is a b e = same_numbers a b (grind (arith, tests)) (grind (arith, tests))

pub same_itself : (a : Id) → is_same a a ≡ true
same_itself a = grind (arith, tests)

pub same_says : (a b : Id) → Says (is_same a b) (a ≡ b) (a ≢ b)
same_says a b = go (is_same a b) refl
  where
    go : (t : Bool) → is_same a b ≡ t → Says t (a ≡ b) (a ≢ b)
    go true e = inl (refl, same_is a b e)
    go false e = inr (refl, λ one. true≢false (sym (same_itself b) ∙ subst (λ x. is_same x b ≡ false) one e))

pub other_id : (a b : Id) → a ≢ b → is_same a b ≡ false
other_id a b ne = elim (same_says a b) [ inl e ↦ absurd (ne e.1) | inr e ↦ e.0 ]

-- two ids that the test tells apart are two
pub differs : (a b : Id) → is_same a b ≡ false → a ≢ b
differs a b e one = true≢false (sym (same_itself b) ∙ subst (λ x. is_same x b ≡ false) one e)

pub same_flip : (a b : Id) → is_same a b ≡ is_same b a
same_flip a b = elim (same_says a b) [
  | inl e ↦ rw e.1 refl
  | inr e ↦ e.0 ∙ sym (other_id b a (λ one. e.1 (sym one)))
]

pub same_neighbour_flip : (z w : Option Id) → is_same_neighbour z w ≡ is_same_neighbour w z
same_neighbour_flip None None = refl
same_neighbour_flip None (Some y) = refl
same_neighbour_flip (Some x) None = refl
same_neighbour_flip (Some x) (Some y) = same_flip x y

-- ---- the smaller id

pub smaller_through : (a b c : Id) → is_smaller a b ≡ true → is_smaller b c ≡ true → is_smaller a c ≡ true
smaller_through a b c p q = grind (arith, tests)

pub smaller_one_way : (a b : Id) → is_smaller a b ≡ true → is_smaller b a ≡ false
smaller_one_way a b p = grind (arith, tests)

pub smaller_total : (a b : Id) → is_same a b ≡ false → is_smaller a b ≡ false → is_smaller b a ≡ true
smaller_total a b ne p = grind (arith, tests)

pub greater_client : (a b : Id) → b.client.0 < a.client.0 → is_smaller a b ≡ false
greater_client a b lt = grind (arith, tests)

-- ---- the smaller id, as numbers

pub greater_client_zero : (a b : Id) → b.client.0 < a.client.0 → one_if (is_smaller a b) ≡ 0
greater_client_zero a b lt = rw (greater_client a b lt) refl

-- of two different ids one is smaller
pub tie_flip : (a b : Id) → is_same a b ≡ false → one_if (is_smaller a b) + one_if (is_smaller b a) ≡ 1
tie_flip a b ne = go (is_smaller a b) refl
  where
    go : (t : Bool) → is_smaller a b ≡ t → one_if t + one_if (is_smaller b a) ≡ 1
    go true e = rw (smaller_one_way a b e) refl
    go false e = rw (smaller_total a b ne e) refl

-- smaller than a smaller one is smaller
pub tie_sum : (a b c : Id) → one_if (is_smaller a b) + one_if (is_smaller b c) ≤ 1 + one_if (is_smaller a c)
tie_sum a b c = go (is_smaller a b) (is_smaller b c) refl refl
  where
    go : (t u : Bool) → is_smaller a b ≡ t → is_smaller b c ≡ u → one_if t + one_if u ≤ 1 + one_if (is_smaller a c)
    go true true e f = rw (smaller_through a b c e f) (omega arith)
    go true false e f = omega arith
    go false u e f = omega (arith, one_if_at_most u)

-- ---- the id that is written first

pub written_itself : (a : Id) → is_written_before a a ≡ false
written_itself a = grind (arith, tests)

pub written_through : (a b c : Id) → is_written_before a b ≡ true → is_written_before b c ≡ true → is_written_before a c ≡ true
written_through a b c p q = grind (arith, tests)

pub written_other : (a b : Id) → is_same a b ≡ false → is_written_before a b ≡ false → is_written_before b a ≡ true
written_other a b p q = grind (arith, tests)

-- an id that is written before another is not that one
pub written_differs : (a b : Id) → is_written_before a b ≡ true → a ≢ b
written_differs a b p e = true≢false (sym (subst (λ x. is_written_before a x ≡ true) (sym e) p) ∙ written_itself a)

pub written_one_way : (a b : Id) → is_written_before a b ≡ true → is_written_before b a ≡ true → ⊥
written_one_way a b p q = written_differs a a (written_through a b a p q) refl

-- ---- ids in a list

pub has_says : (l : List Id) (y : Id) → Says (has_id l y) (IsIn y l) (IsIn y l → ⊥)
has_says [] y = inr (refl, λ i. i)
has_says (x ∷ xs) y = elim (same_says x y) [
  | inl e ↦ inl (rw e.0 refl, inl (sym e.1))
  | inr e ↦ rw e.0 (elim (has_says xs y) [
    | inl f ↦ inl (f.0, inr f.1)
    | inr f ↦ inr (f.0, elim [ inl g ↦ e.1 (sym g) | inr g ↦ f.1 g ])
  ])
]

pub has_is : (l : List Id) (y : Id) → has_id l y ≡ true → IsIn y l
has_is l y e = elim (has_says l y) [ inl f ↦ f.1 | inr f ↦ absurd (true≢false (sym e ∙ f.0)) ]
