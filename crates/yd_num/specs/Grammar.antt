-- How a format is put together: a grammar says which bytes spell a value.
use Rattle.std.specs.Prelude.{◌≡◌, ℕ, ◌<◌, List, ◌++◌, length}

-- bytes of one grammar, and behind them bytes of another
pub record Joins (Front Back : List ℕ → Type 0) (bytes : List ℕ) : Type 0 where
  pub front : List ℕ
  pub back : List ℕ
  pub is_front : Front front
  pub is_back : Back back
  pub joined : bytes ≡ front ++ back

-- bytes of one grammar, whatever stands behind them
abbrev pub Begins : (List ℕ → Type 0) → List ℕ → Type 0
Begins Front bytes = Joins Front (λ back. Unit {0}) bytes

-- the bytes end inside a field: with some more bytes they spell a value
abbrev pub EndsInside : {X : Type 0} → (List ℕ → X → Type 0) → List ℕ → Type 0
EndsInside {X} Spells bytes = (more : List ℕ) × (x : X) × (0 < length more) × Spells (bytes ++ more) x
