-- The numbers of names: one that is there has its place, and a new one goes behind the others.
use Rattle.std.proofs.Common.{◌≡◌, ◌≢◌, ℕ, List, [], ◌∷◌, ◌++◌, inl, inr, Some, length, refl, sym, ap, subst}
use Rattle.std.specs.Prelude.{slice_get}
use Rattle.yd_ops.specs.declared.lists.List.{List as DocList}
use Rattle.yd_held.specs.Numbering.{NumbersName}

module _ (name : DocList) where
  last_name : (names : List DocList) → slice_get (names ++ name ∷ []) (length names) ≡ Some name
  last_name [] = refl
  last_name (other ∷ names) = last_name names

  -- ---- lemmas for callers

  pub numbers_old : (names : List DocList) (n : ℕ) → slice_get names n ≡ Some name → NumbersName name names names n
  numbers_old names n e = record { there = e; grown = inl refl }

  pub numbers_new : (names : List DocList) (list : DocList) → list ≡ name → ((m : ℕ) → slice_get names m ≢ Some name) →
      NumbersName name names (names ++ list ∷ []) (length names)
  numbers_new names list same none = record {
    there = subst (λ l. slice_get (names ++ l ∷ []) (length names) ≡ Some name) (sym same) (last_name names);
    grown = inr (ap (λ l. names ++ l ∷ []) same, none);
  }
