-- Columns in runs: values one behind the other, those that are equal in a row as one run (lib0, run-length encoders).
use Rattle.std.specs.Prelude.{◌≡◌, ◌≢◌, ◌⊎◌, ℕ, suc, List, [], ◌∷◌, ◌++◌, replicate}
use Rattle.yd_cols.specs.declared.run.Run.{Run}
use Rattle.yd_num.specs.Grammar.{Joins}

-- the values of runs, one run behind the other
abbrev pub values_of : {V : Type 0} → List (Run V) → List V
values_of [] = []
values_of (run ∷ runs) = replicate (suc run.more) run.value ++ values_of runs

-- the bytes are the spellings of the runs, one behind the other
abbrev pub AreSpelled : {V : Type 0} → (List ℕ → Run V → Type 0) → List (Run V) → List ℕ → Type 0
AreSpelled Spells [] bytes = bytes ≡ []
AreSpelled Spells (run ∷ runs) bytes = Joins (λ front. Spells front run) (λ back. AreSpelled Spells runs back) bytes

-- some cutting of the values into runs is spelled by the bytes
pub record SpellsRuns {V : Type 0} (Spells : List ℕ → Run V → Type 0) (bytes : List ℕ) (values : List V) : Type 0 where
  pub runs : List (Run V)
  pub spelled : AreSpelled Spells runs bytes
  pub cut : values_of runs ≡ values

-- no run could take the first value of the run behind it: that is another value, or the run has as many as one can have
abbrev pub AreMaximal : {V : Type 0} → ℕ → List (Run V) → Type 0
AreMaximal most [] = Unit {0}
AreMaximal most (run ∷ []) = Unit {0}
AreMaximal most (run ∷ next ∷ runs) = ((run.value ≢ next.value) ⊎ (run.more ≡ most)) × AreMaximal most (next ∷ runs)
