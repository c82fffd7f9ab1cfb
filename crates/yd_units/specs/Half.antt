-- The halves of a pair: two units of UTF-16 that spell one character (The Unicode Standard, surrogates).
use Rattle.std.specs.Prelude.{ℕ, ◌+◌, ◌-◌, ◌^◌, ◌<◌, ◌≤◌, ◌⊎◌, List, ◌∷◌, ◌++◌, length, slice_index}

-- each number is a unit, of 16 bits
abbrev pub AreUnits : List ℕ → Type 0
AreUnits units = (i : ℕ) → slice_index units i < 2 ^ 16

-- the first half of a pair
abbrev pub IsHigh : ℕ → Type 0
IsHigh unit = (0xD800 ≤ unit) × (unit ≤ 0xDBFF)

-- the second half of a pair
abbrev pub IsLow : ℕ → Type 0
IsLow unit = (0xDC00 ≤ unit) × (unit ≤ 0xDFFF)

-- a cut before unit n parts a pair: unit n-1 is a high half, and unit n a low one
pub record IsCut (units : List ℕ) (n : ℕ) : Type 0 where
  pub inside : (0 < n) × (n < length units)
  pub high : IsHigh (slice_index units (n - 1))
  pub low : IsLow (slice_index units n)

-- every half has its partner: behind each high one stands a low one, and before each low one a high one
pub record IsWhole (units : List ℕ) : Type 0 where
  pub highs : (i : ℕ) → IsHigh (slice_index units i) → IsCut units (i + 1)
  pub lows : (i : ℕ) → IsLow (slice_index units i) → IsCut units i

-- the unit between two lists is a half, and neither neighbour is its partner
pub record IsLone (before : List ℕ) (unit : ℕ) (after : List ℕ) : Type 0 where
  pub half : IsHigh unit ⊎ IsLow unit
  pub no_high : ¬ (IsCut (before ++ unit ∷ after) (length before))
  pub no_low : ¬ (IsCut (before ++ unit ∷ after) (length before + 1))
