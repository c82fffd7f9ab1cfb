-- The laws of columns.
use Rattle.std.specs.Prelude.{◌≡◌, ◌↔◌, ℕ, suc, ◌+◌, ◌-◌, ◌^◌, ◌<◌, true, false, List, [], ◌∷◌, ◌++◌, length, map, replicate, Result, Ok, Err, IsUtf8}
use Rattle.std.specs.List.{AllByRecursion, concat}
use Rattle.yd_cols.specs.Column.{SpellsByteRun, SpellsBytes, SpellsDiffRun, SpellsDiffs, SpellsStrings, SpellsUintRun, SpellsUints, differences, units_in}
use Rattle.yd_cols.specs.Reading.{BytesLeft, DiffsLeft, RunsLeft, StringsLeft, bytes_in, diffs_in, end_of_bytes, end_of_diffs, end_of_strings, end_of_uints, next_byte, next_diff, next_string, next_uint, strings_in, uints_in}
use Rattle.yd_cols.specs.Run.{AreMaximal, SpellsRuns, values_of}
use Rattle.yd_cols.specs.Standing.{BytesStand, DiffsStand, StringsStand, UintsStand}
use Rattle.yd_cols.specs.Taking.{LacksByte, LacksDiff, LacksString, LacksUint, TakesByte, TakesDiff, TakesString, TakesUint}
use Rattle.yd_cols.specs.Writing.{byte_column, byte_run_bytes, diff_column, diff_run_bytes, last_byte, no_diffs, no_runs, no_strings, put_all, put_byte, put_diff, put_string, put_uint, string_column, uint_column, uint_run_bytes}
use Rattle.yd_cols.specs.declared.fault.ColFault.{ColFault}
use Rattle.yd_num.specs.Writing.{shortest_blob}
use Rattle.yd_cols.specs.declared.run.Run.{Run}

-- ---- one value

-- what is read is the value that is the next, and reading fails just where there is none
pub record IsExact {V S : Type 0} (next_at : S → Result (V × S) ColFault) (Takes : S → V → S → Type 0) (Lacks : S → ColFault → Type 0) : Type 0 where
  pub values : (left : S) (v : V) (next : S) → (next_at left ≡ Ok (v, next)) ↔ Takes left v next
  pub faults : (left : S) (fault : ColFault) → (next_at left ≡ Err fault) ↔ Lacks left fault

-- each value of a column is read exactly
pub record ValuesAreRead : Type 0 where
  pub uints : IsExact next_uint TakesUint LacksUint
  pub diffs : IsExact next_diff TakesDiff LacksDiff
  pub bytes : IsExact next_byte TakesByte LacksByte
  pub strings : IsExact next_string TakesString LacksString

-- ---- whole columns

-- the values that are left are those that reading gives one after the other, and none is left just where reading may end
pub record IsReadWhole {V S : Type 0} (IsSound : S → Type 0) (next_at : S → Result (V × S) ColFault) (end_at : S → Result (Unit {0}) ColFault) (Stand : S → List V → Type 0) : Type 0 where
  pub given : (left : S) (v : V) (vs : List V) → IsSound left → Stand left (v ∷ vs) → (next : S) × (next_at left ≡ Ok (v, next)) × IsSound next × Stand next vs
  pub taken : (left : S) (v : V) (next : S) (vs : List V) → IsSound left → next_at left ≡ Ok (v, next) → Stand next vs → Stand left (v ∷ vs)
  pub end : (left : S) → (end_at left ≡ Ok tt) ↔ Stand left []

-- columns are read as what they stand for, from their first byte on; a text is kept a text
pub record ColumnsAreRead : Type 0 where
  pub uints : IsReadWhole (λ left. Unit {0}) next_uint end_of_uints UintsStand
  pub diffs : IsReadWhole (λ left. Unit {0}) next_diff end_of_diffs DiffsStand
  pub bytes : IsReadWhole (λ left. Unit {0}) next_byte end_of_bytes BytesStand
  pub strings : IsReadWhole (λ left. IsUtf8 left.text) next_string end_of_strings StringsStand
  pub uints_start : (bytes values : List ℕ) → UintsStand (uints_in bytes) values ↔ SpellsUints bytes values
  pub diffs_start : (bytes values : List ℕ) → DiffsStand (diffs_in bytes) values ↔ SpellsDiffs bytes values
  pub bytes_start : (bytes values : List ℕ) → BytesStand (bytes_in bytes) values ↔ SpellsBytes bytes values
  pub strings_start : (bytes : List ℕ) (strings : List (List ℕ)) → SpellsStrings bytes strings ↔ ((left : StringsLeft) × (strings_in bytes ≡ Ok left) × IsUtf8 left.text × StringsStand left strings)

-- ---- a part of a column

-- reading gives these values one after the other, and leaves this
abbrev pub GivesAll : {V S : Type 0} → (S → Result (V × S) ColFault) → S → List V → S → Type 0
GivesAll next_at left [] end = left ≡ end
GivesAll {S = S} next_at left (v ∷ vs) end = (next : S) × (next_at left ≡ Ok (v, next)) × GivesAll next_at next vs end

-- the bytes that stand from a place on and before what is left spell these values, which end with those in hand; and they are
-- as many as its place says
pub record IsBefore {V : Type 0} (Spells : List ℕ → Run V → Type 0) (start : ℕ) (bytes : List ℕ) (values : List V) (left : RunsLeft V) : Type 0 where
  pub front : List ℕ
  pub joined : bytes ≡ front ++ left.bytes
  pub place : left.place ≡ start + length front
  pub spelled : SpellsRuns Spells front (values ++ replicate left.more left.value)

-- these strings stand in the text before what is left of it, and the lengths before those that are left are theirs
pub record StringsBefore (strings : List (List ℕ)) (start left : StringsLeft) : Type 0 where
  pub text : start.text ≡ concat strings ++ left.text
  pub are_texts : AllByRecursion IsUtf8 strings
  pub lengths : IsBefore SpellsUintRun start.lengths.place start.lengths.bytes (map units_in strings) left.lengths

-- what was given so far is what the runs read so far spell, of the last run perhaps a part
pub record GivenIsSpelled : Type 0 where
  pub uints : (bytes values : List ℕ) (left : RunsLeft ℕ) → GivesAll next_uint (uints_in bytes) values left → IsBefore SpellsUintRun 0 bytes values left
  pub diffs : (bytes values : List ℕ) (left : DiffsLeft) → GivesAll next_diff (diffs_in bytes) values left → IsBefore SpellsDiffRun 0 bytes (differences 0 values) left.runs
  pub counted : (bytes values : List ℕ) (left : BytesLeft) → GivesAll next_byte (bytes_in bytes) values left → left.is_open ≡ false → IsBefore SpellsByteRun 0 bytes values left.runs
  pub opened : (bytes values : List ℕ) (left : BytesLeft) → GivesAll next_byte (bytes_in bytes) values left → left.is_open ≡ true → SpellsBytes bytes values
  pub strings : (bytes : List ℕ) (strings : List (List ℕ)) (start left : StringsLeft) → strings_in bytes ≡ Ok start → GivesAll next_string start strings left → StringsBefore strings start left

-- ---- writing

-- runs one behind the other, the last one perhaps spelled otherwise
abbrev pub bytes_of_runs : {V : Type 0} → (Run V → List ℕ) → (Run V → List ℕ) → List (Run V) → List ℕ
bytes_of_runs spell spell_last [] = []
bytes_of_runs spell spell_last (run ∷ []) = spell_last run
bytes_of_runs spell spell_last (run ∷ next ∷ runs) = spell run ++ bytes_of_runs spell spell_last (next ∷ runs)

-- the values are cut into runs that could not be longer, and these are the bytes
pub record IsMaximal {V : Type 0} (spell spell_last : Run V → List ℕ) (most : ℕ) (bytes : List ℕ) (values : List V) : Type 0 where
  pub runs : List (Run V)
  pub cut : values_of runs ≡ values
  pub maximal : AreMaximal most runs
  pub each : AllByRecursion (λ run. run.more < suc most) runs
  pub bytes_are : bytes ≡ bytes_of_runs spell spell_last runs

-- whatever values are written, they are written in maximal runs
pub record RunsAreMaximal : Type 0 where
  pub uints : (values : List ℕ) → IsMaximal uint_run_bytes uint_run_bytes (2 ^ 53) (uint_column (put_all put_uint values no_runs)) values
  pub diffs : (values : List ℕ) → IsMaximal diff_run_bytes diff_run_bytes (2 ^ 53) (diff_column (put_all put_diff values no_diffs)) (differences 0 values)
  pub bytes : (values : List ℕ) → IsMaximal byte_run_bytes last_byte (2 ^ 53 - 1) (byte_column (put_all put_byte values no_runs)) values
  pub strings : (strings : List (List ℕ)) → string_column (put_all put_string strings no_strings) ≡ shortest_blob (concat strings) ++ uint_column (put_all put_uint (map units_in strings) no_runs)

-- what is written of values in range stands for them
pub record ColumnsComeBack : Type 0 where
  pub uints : (values : List ℕ) → AllByRecursion (λ v. v < 2 ^ 53) values → SpellsUints (uint_column (put_all put_uint values no_runs)) values
  pub diffs : (values : List ℕ) → AllByRecursion (λ v. v < 2 ^ 53) values → SpellsDiffs (diff_column (put_all put_diff values no_diffs)) values
  pub bytes : (values : List ℕ) → SpellsBytes (byte_column (put_all put_byte values no_runs)) values
  pub strings : (strings : List (List ℕ)) → AllByRecursion IsUtf8 strings → length (concat strings) < 2 ^ 53 → SpellsStrings (string_column (put_all put_string strings no_strings)) strings
