-- A walk over a list: of what came, and of what is still to come.
use Rattle.std.proofs.Common.{◌≡◌, ◌<◌, ◌++◌, List, [], ◌∷◌, inl, Some, length, refl, sym, ap, ◌∙◌, subst, arith, append_assoc}
use Rattle.std.specs.Prelude.{slice_get}
use Rattle.std.proofs.lemmas.List.{append-nil, length-append}
use Rattle.yd_words.specs.Each.{Each}
use Rattle.yd_words.specs.Member.{IsIn}
use Rattle.yd_words.proofs.EachLemmas.{each_append}
use Rattle.yd_words.proofs.MemberLemmas.{in_right_part}

-- where none is to come, all came
pub all_came : {X : Type 0} (xs came rest : List X) → came ++ rest ≡ xs → rest ≡ [] → came ≡ xs
all_came xs came rest all none = sym (append-nil came) ∙ ap (λ more. came ++ more) (sym none) ∙ all

-- what is so of each that came is so with one more
pub each_came : {X : Type 0} (P : X → Type 0) (came : List X) (x : X) → Each P came → P x → Each P (came ++ x ∷ [])
each_came P came x each here = each_append P came (x ∷ []) each (here, tt)

-- the element at the place that is the count of those before it
at_count : {X : Type 0} (front back : List X) (x : X) → slice_get (front ++ x ∷ back) (length front) ≡ Some x
at_count [] back x = refl
at_count (y ∷ front) back x = at_count front back x

module _ {X : Type 0} (xs came rest next : List X) (x : X) (all : came ++ rest ≡ xs) (step : rest ≡ x ∷ next) where
  parts : came ++ x ∷ next ≡ xs
  parts = ap (λ more. came ++ more) (sym step) ∙ all

  -- one more comes
  pub one_more : (came ++ x ∷ []) ++ next ≡ xs
  one_more = append_assoc came (x ∷ []) next ∙ parts

  -- it is of the list
  pub comes_of : IsIn x xs
  comes_of = subst (IsIn x) parts (in_right_part x came (x ∷ next) (inl refl))

  -- it stands at the place that is the count of those that came
  pub comes_at : slice_get xs (length came) ≡ Some x
  comes_at = subst (λ us. slice_get us (length came) ≡ Some x) parts (at_count came next x)

  -- fewer came than there are
  pub fewer_came : length came < length xs
  fewer_came = subst (λ us. length came < length us) parts (rw (length-append came (x ∷ next)) (omega arith))
