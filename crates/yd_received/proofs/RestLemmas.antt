-- What is left of a list that is handed out one by one.
use Rattle.std.proofs.Common.{◌≡◌, ℕ, zero, suc, ◌+◌, ◌<◌, List, [], ◌∷◌, length, take, drop, get_or, refl, sym, ap, ◌∙◌, arith}
use Rattle.std.proofs.lemmas.List.{length-drop, drop_more, take_all}

-- behind the first n of all there is the rest, which is as much as is counted
pub record IsRest {A : Type 0} (all : List A) (n : ℕ) (rest : List A) (count : ℕ) : Type 0 where
  pub behind : drop n all ≡ rest
  pub counted : count ≡ length rest

pub all_left : {A : Type 0} (all rest : List A) (count : ℕ) → rest ≡ all → count ≡ length all → IsRest all 0 rest count
all_left all rest count same counted = record { behind = sym same; counted = counted ∙ ap length (sym same) }

first_or : {A : Type 0} → A → List A → A
first_or x [] = x
first_or x (y ∷ ys) = y

later_of : {A : Type 0} → List A → List A
later_of [] = []
later_of (y ∷ ys) = ys

module _ {A : Type 0} (all : List A) (n : ℕ) (x : A) (old new : List A) (count : ℕ) (is : IsRest all n old count) (step : old ≡ x ∷ new) where
  pub next_within : n < length all
  next_within = omega (arith, length-drop n all, ap length (is.behind ∙ step))

  next_cons : x ∷ new ≡ get_or all n x ∷ drop (n + 1) all
  next_cons = sym (is.behind ∙ step) ∙ drop_more all n x next_within

  pub next_there : x ≡ get_or all n x
  unfolding first_or
  next_there = ap (λ l. first_or x l) next_cons

  pub rest_left : (more : ℕ) → count ≡ more + 1 → IsRest all (n + 1) new more
  unfolding later_of
  rest_left more less = record { behind = sym (ap later_of next_cons); counted = omega (arith, less, is.counted, ap length step) }

no_items : {A : Type 0} (l : List A) → length l ≡ 0 → l ≡ []
no_items [] none = refl
no_items (x ∷ xs) none = absurd (omega arith)

-- where no more is counted, all came
pub all_came : {A : Type 0} (all : List A) (n : ℕ) (rest : List A) (count : ℕ) → IsRest all n rest count → count ≡ 0 → take n all ≡ all
all_came all n rest count is none = take_all n all (omega (arith, length-drop n all, ap length is.behind, is.counted))
