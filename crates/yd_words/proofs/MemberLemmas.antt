-- Members of lists: of two lists joined, and what is true of each.
use Rattle.std.proofs.Common.{◌≡◌, List, [], ◌∷◌, ◌++◌, ◌⊎◌, inl, inr, refl, sym, subst}
use Rattle.yd_words.specs.Each.{Each}
use Rattle.yd_words.specs.Member.{IsIn}

-- ---- two lists joined

pub in_left_part : {X : Type 0} (y : X) (xs ys : List X) → IsIn y xs → IsIn y (xs ++ ys)
in_left_part y [] ys i = absurd i
in_left_part y (x ∷ xs) ys (inl e) = inl e
in_left_part y (x ∷ xs) ys (inr i) = inr (in_left_part y xs ys i)

pub in_right_part : {X : Type 0} (y : X) (xs ys : List X) → IsIn y ys → IsIn y (xs ++ ys)
in_right_part y [] ys i = i
in_right_part y (x ∷ xs) ys i = inr (in_right_part y xs ys i)

pub in_parts : {X : Type 0} (y : X) (xs ys : List X) → IsIn y (xs ++ ys) → IsIn y xs ⊎ IsIn y ys
in_parts y [] ys i = inr i
in_parts y (x ∷ xs) ys (inl e) = inl (inl e)
in_parts y (x ∷ xs) ys (inr i) = elim (in_parts y xs ys i) [ inl j ↦ inl (inr j) | inr j ↦ inr j ]

pub in_with_last : {X : Type 0} (xs : List X) (x y : X) → IsIn y (xs ++ x ∷ []) → IsIn y xs ⊎ (y ≡ x)
in_with_last xs x y i = elim (in_parts y xs (x ∷ []) i) [
  | inl j ↦ inl j
  | inr (inl e) ↦ inr e
  | inr (inr j) ↦ absurd j
]

-- ---- what is true of each

-- what is true of each is true of one
pub each_in : {X : Type 0} (P : X → Type 0) (xs : List X) → Each P xs → (x : X) → IsIn x xs → P x
each_in P [] h x i = absurd i
each_in P (y ∷ ys) h x (inl e) = subst P (sym e) h.0
each_in P (y ∷ ys) h x (inr i) = each_in P ys h.1 x i

-- what is true of every one is true of each
pub in_each : {X : Type 0} (P : X → Type 0) (xs : List X) → ((x : X) → IsIn x xs → P x) → Each P xs
in_each P [] f = tt
in_each P (x ∷ xs) f = (f x (inl refl), in_each P xs (λ y i. f y (inr i)))
