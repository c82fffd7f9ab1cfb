-- Which values are left of a column: those in hand, and those that its bytes spell.
use Rattle.std.specs.Prelude.{◌≡◌, ◌⊎◌, ℕ, ◌^◌, ◌<◌, true, false, List, ◌++◌, map, replicate, IsUtf8}
use Rattle.std.specs.List.{AllByRecursion, concat}
use Rattle.yd_cols.specs.Column.{SpellsBytes, SpellsDiffRun, SpellsUintRun, differences, units_in}
use Rattle.yd_cols.specs.Reading.{BytesLeft, DiffsLeft, RunsLeft, StringsLeft}
use Rattle.yd_cols.specs.Run.{SpellsRuns}
use Rattle.yd_cols.specs.declared.run.Run.{Run}

-- the values are those in hand, and behind them those of runs that the bytes spell
pub record RunsStand {V : Type 0} (Spells : List ℕ → Run V → Type 0) (left : RunsLeft V) (values : List V) : Type 0 where
  pub behind : List V
  pub spelled : SpellsRuns Spells left.bytes behind
  pub all : values ≡ replicate left.more left.value ++ behind

-- the numbers that are left
abbrev pub UintsStand : RunsLeft ℕ → List ℕ → Type 0
UintsStand left values = RunsStand SpellsUintRun left values

-- the numbers that are left, by their differences
pub record DiffsStand (left : DiffsLeft) (values : List ℕ) : Type 0 where
  pub in_range : AllByRecursion (λ v. v < 2 ^ 53) values
  pub stand : RunsStand SpellsDiffRun left.runs (differences left.before values)

-- the last run has no count, and stands as often as needed
pub record OpenStands (left : BytesLeft) (values : List ℕ) : Type 0 where
  pub opened : left.is_open ≡ true
  pub count : ℕ
  pub values_are : values ≡ replicate count left.runs.value

-- bytes in hand, and behind them those of a column
pub record CountedStand (left : BytesLeft) (values : List ℕ) : Type 0 where
  pub closed : left.is_open ≡ false
  pub behind : List ℕ
  pub spelled : SpellsBytes left.runs.bytes behind
  pub all : values ≡ replicate left.runs.more left.runs.value ++ behind

-- the bytes that are left
abbrev pub BytesStand : BytesLeft → List ℕ → Type 0
BytesStand left values = OpenStands left values ⊎ CountedStand left values

-- the strings that are left
pub record StringsStand (left : StringsLeft) (strings : List (List ℕ)) : Type 0 where
  pub joined : left.text ≡ concat strings
  pub are_texts : AllByRecursion IsUtf8 strings
  pub lengths : UintsStand left.lengths (map units_in strings)
