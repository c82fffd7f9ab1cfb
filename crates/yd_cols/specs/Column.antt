-- The four columns: which bytes stand for a list of values (lib0, UintOptRleEncoder, IntDiffOptRleEncoder, RleEncoder and StringEncoder; the bounds
-- of numbers are own). Runs need not be as long as they could be.
use Rattle.std.specs.Prelude.{◌≡◌, ◌⊎◌, ℕ, zero, suc, ◌^◌, ◌<◌, ℤ, pos, neg_ℤ, ◌+ℤ◌, ◌*ℤ◌, ◌-ℤ◌, Bool, true, false, List, [], ◌∷◌, ◌++◌, length, map, replicate, IsUtf8, if◌then◌else◌}
use Rattle.std.specs.List.{AllByRecursion, concat}
use Rattle.yd_cols.specs.Run.{SpellsRuns}
use Rattle.yd_cols.specs.declared.run.Run.{Run}
use Rattle.yd_num.specs.Grammar.{Joins}
use Rattle.yd_num.specs.Number.{SpellsUnsigned}
use Rattle.yd_num.specs.Signed.{SpellsSigned}
use Rattle.yd_num.specs.Text.{SpellsText}
use Rattle.yd_num.specs.declared.signed.Signed.{Signed}
use Rattle.yd_units.specs.Text.{units_of}

-- ---- runs

-- a run has more values than one
abbrev pub has_more : ℕ → Bool
has_more zero = false
has_more (suc more) = true

-- what stands behind the number of a run: nothing where it has one value, and else how many more than two it has
abbrev pub SpellsMore : List ℕ → ℕ → Type 0
SpellsMore bytes zero = bytes ≡ []
SpellsMore bytes (suc more) = SpellsUnsigned bytes more

-- a run of numbers: the number with a plus, or with a minus where more than one of it stand in a row, zero too; and then how many more
pub record SpellsUintRun (bytes : List ℕ) (run : Run ℕ) : Type 0 where
  pub in_range : run.value < 2 ^ 53
  pub spelled : Joins (λ front. SpellsSigned front (record { negative = has_more run.more; size = run.value })) (λ back. SpellsMore back run.more) bytes

-- the integer that a signed number is; both zeros are zero
abbrev pub integer_of : Signed → ℤ
integer_of n = if n.negative then neg_ℤ (pos n.size) else pos n.size

-- the bytes spell an integer
abbrev pub SpellsInteger : List ℕ → ℤ → Type 0
SpellsInteger bytes z = (n : Signed) × SpellsSigned bytes n × (integer_of n ≡ z)

-- twice a difference, and one more where it stands more than once in a row
abbrev pub doubled : Run ℤ → ℤ
doubled run = (pos 2 *ℤ run.value) +ℤ (if has_more run.more then pos 1 else pos 0)

-- a run of differences: this number, and then how many more
abbrev pub SpellsDiffRun : List ℕ → Run ℤ → Type 0
SpellsDiffRun bytes run = Joins (λ front. SpellsInteger front (doubled run)) (λ back. SpellsMore back run.more) bytes

-- a run of bytes: the byte, and then how many more of it
abbrev pub SpellsByteRun : List ℕ → Run ℕ → Type 0
SpellsByteRun bytes run = Joins (λ front. front ≡ run.value ∷ []) (λ back. SpellsUnsigned back run.more) bytes

-- ---- columns

-- a column of numbers
abbrev pub SpellsUints : List ℕ → List ℕ → Type 0
SpellsUints bytes values = SpellsRuns SpellsUintRun bytes values

-- how far each value is from the one before it, and the first from this one
abbrev pub differences : ℕ → List ℕ → List ℤ
differences before [] = []
differences before (v ∷ vs) = (pos v -ℤ pos before) ∷ differences v vs

-- a column of numbers by their differences
pub record SpellsDiffs (bytes values : List ℕ) : Type 0 where
  pub in_range : AllByRecursion (λ v. v < 2 ^ 53) values
  pub spelled : SpellsRuns SpellsDiffRun bytes (differences 0 values)

-- runs of bytes, and then one byte whose count is left out; it stands once or more often
pub record EndsOpen (bytes values : List ℕ) : Type 0 where
  pub front : List ℕ
  pub before : List ℕ
  pub last : ℕ
  pub more : ℕ
  pub spelled : SpellsRuns SpellsByteRun front before
  pub bytes_are : bytes ≡ front ++ last ∷ []
  pub values_are : values ≡ before ++ replicate (suc more) last

-- a column of bytes; the count of its last run may be left out
abbrev pub SpellsBytes : List ℕ → List ℕ → Type 0
SpellsBytes bytes values = SpellsRuns SpellsByteRun bytes values ⊎ EndsOpen bytes values

-- how many units of UTF-16 a string has
abbrev pub units_in : List ℕ → ℕ
units_in string = length (units_of string)

-- a column of strings: one text that joins them, and then how many units each has; none of them parts a pair, so that each is a text
pub record SpellsStrings (bytes : List ℕ) (strings : List (List ℕ)) : Type 0 where
  pub spelled : Joins (λ front. SpellsText front (concat strings)) (λ back. SpellsUints back (map units_in strings)) bytes
  pub are_texts : AllByRecursion IsUtf8 strings
