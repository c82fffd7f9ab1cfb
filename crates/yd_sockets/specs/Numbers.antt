-- Lists of the numbers of sessions (own).
use Rattle.std.specs.Prelude.{◌≡◌, ◌≢◌, ℕ, List, Some, slice_get}

-- some place has the number
abbrev pub IsOpen : ℕ → List ℕ → Type 0
IsOpen number numbers = (at : ℕ) × (slice_get numbers at ≡ Some number)

-- no place has the number
abbrev pub IsNowhere : ℕ → List ℕ → Type 0
IsNowhere number numbers = (at : ℕ) → slice_get numbers at ≢ Some number
