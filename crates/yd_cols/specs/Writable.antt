-- Which runs can be written: their numbers are in range (own).
use Rattle.std.specs.Prelude.{ℕ, ◌^◌, ◌<◌, ◌≤◌, ℤ, pos, neg_ℤ, ◌<ℤ◌, Option, Some, None}
use Rattle.yd_cols.specs.declared.run.Run.{Run}

-- a run of numbers that are read, with a count that is read
pub record FitsUint (run : Run ℕ) : Type 0 where
  pub in_range : run.value < 2 ^ 53
  pub count : run.more ≤ 2 ^ 53

-- a difference of two such numbers
pub record IsStep (step : ℤ) : Type 0 where
  pub above : neg_ℤ (pos (2 ^ 53)) <ℤ step
  pub below : step <ℤ pos (2 ^ 53)

-- a run of such differences
pub record FitsDiff (run : Run ℤ) : Type 0 where
  pub in_range : IsStep run.value
  pub count : run.more ≤ 2 ^ 53

-- a run of bytes
pub record FitsByte (run : Run ℕ) : Type 0 where
  pub count : run.more < 2 ^ 53

-- the run in hand fits, if there is one
abbrev pub HandFits : {V : Type 0} → (Run V → Type 0) → Option (Run V) → Type 0
HandFits Fits None = Unit {0}
HandFits Fits (Some run) = Fits run
