-- That one of some things passes a test.
use Rattle.std.proofs.Common.{◌≡◌, true, false, ◌||◌, Bool, List, [], ◌∷◌, ◌⊎◌, inl, inr, refl, sym, ap, ◌∙◌, subst, true≢false}
use Rattle.std.proofs.lemmas.Bool.{cases_Bool, or_left, or_right}
use Rattle.yd_words.specs.Member.{IsIn}
use Rattle.yd_grouping.specs.Disagreement.{some_passes}

module _ {X : Type 0} (test : X → Bool) where
  -- one is found where one passes
  pub passes_found : (xs : List X) → some_passes test xs ≡ true → (x : X) × IsIn x xs × (test x ≡ true)
  passes_found [] e = absurd (true≢false (sym e))
  passes_found (x ∷ xs) e = elim (cases_Bool (test x)) [
    | inl p ↦ (x, inl refl, p)
    | inr n ↦ let (y, i, p) = passes_found xs (sym (ap (λ t. t || some_passes test xs) n) ∙ e) in (y, inr i, p)
  ]

  -- and one passes where one is found
  pub found_passes : (xs : List X) (x : X) → IsIn x xs → test x ≡ true → some_passes test xs ≡ true
  found_passes [] x i e = absurd i
  found_passes (y ∷ ys) x (inl f) e = or_left (test y) (some_passes test ys) (subst (λ z. test z ≡ true) f e)
  found_passes (y ∷ ys) x (inr i) e = or_right (test y) (some_passes test ys) (found_passes ys x i e)

-- of two tests of which one holds the first does, or the second
pub one_holds : (s t : Bool) → s || t ≡ true → (s ≡ true) ⊎ (t ≡ true)
one_holds true t e = inl refl
one_holds false t e = inr e
