-- Neighbours that are there, a list up to an id and behind it, and lists whose places rise.
use Rattle.std.proofs.Common.{◌≡◌, ℕ, ◌<◌, ◌≤◌, List, [], ◌∷◌, ◌++◌, ◌⊎◌, Option, Some, None, inl, inr, refl, sym, ap, subst, arith}
use Rattle.std.specs.Prelude.{IfSome, if◌then◌else◌}
use Rattle.yd_words.specs.Member.{IsIn}
use Rattle.yd_words.proofs.MemberLemmas.{in_left_part, in_right_part, in_parts}
use Rattle.yd_ids.specs.declared.id.Id.{Id}
use Rattle.yd_ids.proofs.IdLemmas.{same_says}
use Rattle.yd_origins.specs.Parts.{first_of, up_to, behind}

-- ---- neighbours that are there

-- the place of a neighbour, and the given one where it is absent
abbrev pub place : (Id → ℕ) → ℕ → Option Id → ℕ
place pos default None = default
place pos default (Some y) = pos y

-- ---- a list up to an id and behind it

-- a list is what it has up to an id and what it has behind it
pub parts_of : (p : Option Id) (l : List Id) → up_to p l ++ behind p l ≡ l
parts_of None l = refl
parts_of (Some p) [] = refl
parts_of (Some p) (x ∷ xs) = elim (same_says x p) [
  | inl e ↦ rw e.0 refl
  | inr e ↦ rw e.0 (ap (λ zs. x ∷ zs) (parts_of (Some p) xs))
]

pub in_up_to : (p : Option Id) (l : List Id) (y : Id) → IsIn y (up_to p l) → IsIn y l
in_up_to p l y i = subst (λ zs. IsIn y zs) (parts_of p l) (in_left_part y (up_to p l) (behind p l) i)

pub in_behind : (p : Option Id) (l : List Id) (y : Id) → IsIn y (behind p l) → IsIn y l
in_behind p l y i = subst (λ zs. IsIn y zs) (parts_of p l) (in_right_part y (up_to p l) (behind p l) i)

pub up_to_or_behind : (p : Option Id) (l : List Id) (y : Id) → IsIn y l → IsIn y (up_to p l) ⊎ IsIn y (behind p l)
up_to_or_behind p l y i = in_parts y (up_to p l) (behind p l) (subst (λ zs. IsIn y zs) (sym (parts_of p l)) i)

pub first_in : (l : List Id) → IfSome (first_of l) (λ y. IsIn y l)
first_in [] = tt
first_in (x ∷ xs) = inl refl

-- ---- rising lists

-- the place of each is smaller than the places of those behind it
abbrev pub Rising : (Id → ℕ) → List Id → Type 0
Rising pos [] = Unit {0}
Rising pos (x ∷ xs) = ((y : Id) → IsIn y xs → pos x < pos y) × Rising pos xs

pub rising_tail : (pos : Id → ℕ) (xs ys : List Id) → Rising pos (xs ++ ys) → Rising pos ys
rising_tail pos [] ys r = r
rising_tail pos (z ∷ zs) ys r = rising_tail pos zs ys r.1

pub rising_insert : (pos : Id → ℕ) (o : Id) (xs ys : List Id) → Rising pos (xs ++ ys) →
    ((y : Id) → IsIn y xs → pos y < pos o) → ((y : Id) → IsIn y ys → pos o < pos y) → Rising pos (xs ++ o ∷ ys)
rising_insert pos o [] ys r low high = (high, r)
rising_insert pos o (x ∷ xs) ys r low high = (
  (λ y i. elim (in_parts y xs (o ∷ ys) i) [
    | inl a ↦ r.0 y (in_left_part y xs ys a)
    | inr (inl a) ↦ rw a (low x (inl refl))
    | inr (inr a) ↦ r.0 y (in_right_part y xs ys a)
  ]),
  rising_insert pos o xs ys r.1 (λ y i. low y (inr i)) high,
)

-- what stands up to an id is no later than it
pub up_to_low : (pos : Id → ℕ) (p : Id) (l : List Id) → Rising pos l → IsIn p l → (z : Id) → IsIn z (up_to (Some p) l) → pos z ≤ pos p
up_to_low pos p [] r i z j = absurd i
up_to_low pos p (x ∷ xs) r (inl i) z (inl j) = omega (arith, ap pos i, ap pos j)
up_to_low pos p (x ∷ xs) r (inr i) z (inl j) = omega (arith, r.0 p i, ap pos j)
up_to_low pos p (x ∷ xs) r i z (inr j) = elim (same_says x p) [
  | inl e ↦ absurd (subst (λ t. IsIn z (if t then [] else up_to (Some p) xs)) e.0 j)
  | inr e ↦ up_to_low pos p xs r.1 (elim i [ inl f ↦ absurd (e.1 (sym f)) | inr f ↦ f ]) z (subst (λ t. IsIn z (if t then [] else up_to (Some p) xs)) e.0 j)
]

-- and what stands behind it is later
pub behind_low : (pos : Id → ℕ) (p : Id) (l : List Id) → Rising pos l → IsIn p l → (z : Id) → IsIn z (behind (Some p) l) → pos p < pos z
behind_low pos p [] r i z j = absurd i
behind_low pos p (x ∷ xs) r i z j = elim (same_says x p) [
  | inl e ↦ rw (sym e.1) (r.0 z (subst (λ t. IsIn z (if t then xs else behind (Some p) xs)) e.0 j))
  | inr e ↦ behind_low pos p xs r.1 (elim i [ inl f ↦ absurd (e.1 (sym f)) | inr f ↦ f ]) z (subst (λ t. IsIn z (if t then xs else behind (Some p) xs)) e.0 j)
]

-- the first is no later than the others
pub first_low : (pos : Id → ℕ) (default : ℕ) (l : List Id) → Rising pos l → (y : Id) → IsIn y l → place pos default (first_of l) ≤ pos y
first_low pos default [] r y i = absurd i
first_low pos default (x ∷ xs) r y (inl e) = omega (arith, ap pos e)
first_low pos default (x ∷ xs) r y (inr i) = omega (arith, r.0 y i)
