-- Lists in which no element stands twice: with the same elements they have one length.
use Rattle.std.proofs.Common.{◌≡◌, ℕ, zero, suc, ◌≤◌, Bool, true, false, List, [], ◌∷◌, ◌++◌, Some, inl, inr, length, refl, sym, ap, ◌∙◌, subst, arith}
use Rattle.std.specs.Prelude.{slice_get, filter, if◌then◌else◌}
use Rattle.yd_words.specs.Member.{IsIn, AreDistinct}
use Rattle.yd_words.proofs.FilterLemmas.{kept_one}
use Rattle.yd_words.proofs.MemberLemmas.{in_parts}

module _ {X : Type 0} where
  -- a list without one of its elements
  without : (x : X) (ys : List X) → IsIn x ys → List X
  without x [] i = []
  without x (y ∷ ys) (inl e) = ys
  without x (y ∷ ys) (inr i) = y ∷ without x ys i

  length-without : (x : X) (ys : List X) (i : IsIn x ys) → suc (length (without x ys i)) ≡ length ys
  unfolding without
  length-without x [] i = absurd i
  length-without x (y ∷ ys) (inl e) = refl
  length-without x (y ∷ ys) (inr i) = ap suc (length-without x ys i)

  stays_in : (x z : X) (ys : List X) (i : IsIn x ys) → IsIn z ys → (z ≡ x → ⊥) → IsIn z (without x ys i)
  unfolding without
  stays_in x z [] i j other = absurd i
  stays_in x z (y ∷ ys) (inl e) (inl f) other = absurd (other (f ∙ sym e))
  stays_in x z (y ∷ ys) (inl e) (inr j) other = j
  stays_in x z (y ∷ ys) (inr i) (inl f) other = inl f
  stays_in x z (y ∷ ys) (inr i) (inr j) other = inr (stays_in x z ys i j other)

  -- no more elements than another list that has them all
  no_more : (xs ys : List X) → AreDistinct xs → ((x : X) → IsIn x xs → IsIn x ys) → length xs ≤ length ys
  no_more [] ys distinct all = omega arith
  no_more (x ∷ xs) ys distinct all =
      let here = all x (inl refl) in
      omega (
        arith,
        length-without x ys here,
        no_more xs (without x ys here) distinct.1
            (λ z i. stays_in x z ys here (all z (inr i)) (λ same. distinct.0 (subst (λ y. IsIn y xs) same i))),
      )

  -- ---- lemmas for callers

  -- with the same elements two such lists have one length
  pub one_length : (xs ys : List X) → AreDistinct xs → AreDistinct ys → ((x : X) → IsIn x xs → IsIn x ys) → ((x : X) → IsIn x ys → IsIn x xs) → length xs ≡ length ys
  one_length xs ys distinct others to from = omega (arith, no_more xs ys distinct to, no_more ys xs others from)

  -- what passes a test of such a list is one
  pub distinct_pass : (test : X → Bool) (xs : List X) → AreDistinct xs → AreDistinct (filter test xs)
  distinct_pass test [] distinct = tt
  distinct_pass test (x ∷ xs) distinct = go (test x) (distinct_pass test xs distinct.1)
    where
      go : (t : Bool) → AreDistinct (filter test xs) → AreDistinct (if t then x ∷ filter test xs else filter test xs)
      go true rest = ((λ i. distinct.0 (kept_one test xs x i).1), rest)
      go false rest = rest

  -- an element has a place, and at a place stands an element
  pub place_of : (xs : List X) (x : X) → IsIn x xs → (n : ℕ) × (slice_get xs n ≡ Some x)
  place_of [] x i = absurd i
  place_of (y ∷ ys) x (inl e) = (0, ap (λ z. Some z) (sym e))
  place_of (y ∷ ys) x (inr i) = let (n, at) = place_of ys x i in (suc n, at)

  pub in_place : (xs : List X) (n : ℕ) (x : X) → slice_get xs n ≡ Some x → IsIn x xs
  in_place [] n x e = absurd cc
  in_place (y ∷ ys) zero x e = let same : y ≡ x = cc in inl (sym same)
  in_place (y ∷ ys) (suc n) x e = inr (in_place ys n x e)

  -- a list in which no element has two places
  pub distinct_places : (xs : List X) → ((m n : ℕ) (x : X) → slice_get xs m ≡ Some x → slice_get xs n ≡ Some x → m ≡ n) → AreDistinct xs
  distinct_places [] one = tt
  distinct_places (x ∷ xs) one = (
    (λ i. let (n, at) = place_of xs x i in absurd (omega (arith, one 0 (suc n) x refl at))),
    distinct_places xs (λ m n y e f. omega (arith, one (suc m) (suc n) y e f)),
  )

  -- two such lists that have no element in common are one behind the other
  pub distinct_parts : (xs ys : List X) → AreDistinct xs → AreDistinct ys → ((x : X) → IsIn x xs → IsIn x ys → ⊥) → AreDistinct (xs ++ ys)
  distinct_parts [] ys one other apart = other
  distinct_parts (x ∷ xs) ys one other apart = (
    (λ i. elim (in_parts x xs ys i) [ inl j ↦ one.0 j | inr j ↦ apart x (inl refl) j ]),
    distinct_parts xs ys one.1 other (λ z i j. apart z (inr i) j),
  )
