-- Lists that get one more at the end, and the last place of a code in them.
use Rattle.std.proofs.Common.{◌≡◌, ◌∙◌, ℕ, zero, suc, ◌<◌, ◌⊎◌, Bool, true, false, cond, List, [], ◌∷◌, ◌++◌, Option, Some, None, inl, inr, length, take, refl, ap, arith, nat_eq}
use Rattle.std.specs.Prelude.{slice_get}
use Rattle.yd_words.proofs.OptionLemmas.{some_is}
use Rattle.yd_names.specs.Codes.{one_later, place_or, last_place}

module _ {X : Type 0} where
  pub got_stays : (xs ys : List X) (m : ℕ) (y : X) → slice_get xs m ≡ Some y → slice_get (xs ++ ys) m ≡ Some y
  got_stays [] ys m y e = absurd cc
  got_stays (z ∷ zs) ys zero y e = e
  got_stays (z ∷ zs) ys (suc m) y e = got_stays zs ys m y e

  pub got_before : (x : X) (xs : List X) (m : ℕ) (y : X) → slice_get (xs ++ x ∷ []) m ≡ Some y → (slice_get xs m ≡ Some y) ⊎ ((m ≡ length xs) × (x ≡ y))
  got_before x [] zero y e = inr (refl, some_is x y e)
  got_before x [] (suc m) y e = absurd cc
  got_before x (z ∷ zs) zero y e = inl e
  got_before x (z ∷ zs) (suc m) y e = elim (got_before x zs m y e) [ inl f ↦ inl f | inr (f, g) ↦ inr (ap suc f, g) ]

  pub got_last : (x : X) (xs : List X) (n : ℕ) → n ≡ length xs → slice_get (xs ++ x ∷ []) n ≡ Some x
  got_last x [] n e = ap (λ n. slice_get (x ∷ []) n) e
  got_last x (z ∷ zs) n e = ap (λ n. slice_get (z ∷ zs ++ x ∷ []) n) e ∙ got_last x zs (length zs) refl

  pub got_front : (x : X) (xs : List X) (m : ℕ) → m < length xs → slice_get (xs ++ x ∷ []) m ≡ slice_get xs m
  got_front x [] m lt = absurd (omega arith)
  got_front x (z ∷ zs) zero lt = refl
  got_front x (z ∷ zs) (suc m) lt = got_front x zs m (omega arith)

  pub take_whole : (x : X) (xs : List X) → take (length xs) (xs ++ x ∷ []) ≡ xs
  take_whole x [] = refl
  take_whole x (z ∷ zs) = ap (λ l. z ∷ l) (take_whole x zs)

  pub one_longer : (x : X) (xs : List X) → length (xs ++ x ∷ []) ≡ suc (length xs)
  one_longer x [] = refl
  one_longer x (z ∷ zs) = ap suc (one_longer x zs)

-- a code at the end stands there last, and the others where they stood
pub last-snoc : (code c : ℕ) (cs : List ℕ) → last_place code (cs ++ c ∷ []) ≡ cond (nat_eq c code) (Some (length cs)) (last_place code cs)
last-snoc code c [] = refl
last-snoc code c (x ∷ xs) =
    ap (λ l. place_or (one_later l) (cond (nat_eq x code) (Some 0) None)) (last-snoc code c xs)
    ∙ step (nat_eq c code) (last_place code xs) (cond (nat_eq x code) (Some 0) None) (length xs)
  where
    step : (b : Bool) (l t : Option ℕ) (n : ℕ) → place_or (one_later (cond b (Some n) l)) t ≡ cond b (Some (suc n)) (place_or (one_later l) t)
    step true l t n = refl
    step false l t n = refl
