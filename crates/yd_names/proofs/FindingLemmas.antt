-- Names that are looked for by their codes.
use Rattle.std.proofs.Common.{◌≡◌, ◌≢◌, ◌∙◌, ℕ, ◌<◌, true, false, List, Option, Some, None, get_or, length, sym, ap, arith, true≢false}
use Rattle.std.specs.Prelude.{slice_get}
use Rattle.std.proofs.lemmas.Option.{slice_get-get_or, get_or_from_slice_get, slice_get_within}
use Rattle.yd_ops.specs.declared.lists.List.{List as DocList}
use Rattle.yd_meaning.specs.Names.{same_list}
use Rattle.yd_meaning.specs.ListNames.{same_list_decides}
use Rattle.yd_names.specs.Coding.{code_of_list}
use Rattle.yd_names.proofs.NamesLemmas.{IsLookedFor}

-- the name stands there, and is found by its code
abbrev pub IsName : List DocList → List ℕ → DocList → ℕ → Type 0
IsName names codes name n = (slice_get codes n ≡ Some (code_of_list name)) × (slice_get names n ≡ Some name)

-- the name is looked for
abbrev pub NameLookedFor : List DocList → List ℕ → DocList → Option ℕ → Type 0
NameLookedFor names codes name next = IsLookedFor codes (IsName names codes name) (code_of_list name) (λ n is. is.0) (length codes) next

module _ (names : List DocList) where
  pub found_here : (codes : List ℕ) (name : DocList) (number : ℕ) (list : DocList) → number < length names → list ≡ get_or names number list → same_list list name ≡ true →
      slice_get names number ≡ Some name
  found_here codes name number list lt e same = slice_get-get_or names number list lt ∙ ap (λ l. Some l) (sym e ∙ (same_list_decides list name).0 same)

  pub not_here : (codes : List ℕ) (name : DocList) (number : ℕ) (list : DocList) → list ≡ get_or names number list → same_list list name ≡ false → IsName names codes name number → ⊥
  not_here codes name number list e other (coded, f) =
      true≢false (sym ((same_list_decides list name).1 (e ∙ get_or_from_slice_get names number name list f)) ∙ other)

  pub nowhere : (codes : List ℕ) (name : DocList) → length codes ≡ length names → NameLookedFor names codes name None → (n : ℕ) → slice_get codes n ≡ Some (code_of_list name) → slice_get names n ≢ Some name
  nowhere codes name each was n coded e = let lt : n < 0 = was.before n (slice_get_within codes n (code_of_list name) coded) (coded, e) in absurd (omega arith)
