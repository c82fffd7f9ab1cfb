-- Writing a column value by value: what is written so far, and the bytes that it is in the end. Runs are as long as they can be.
use Rattle.std.specs.Prelude.{ℕ, zero, suc, ◌^◌, ℤ, pos, negsuc, ◌-◌, ◌-ℤ◌, Bool, List, [], ◌∷◌, ◌++◌, Option, Some, None, true, false, nat_eq, nat_lt, if◌then◌else◌}
use Rattle.std.specs.Ordering.{int_eq}
use Rattle.yd_cols.specs.Column.{doubled, has_more, units_in}
use Rattle.yd_cols.specs.declared.run.Run.{Run}
use Rattle.yd_num.specs.Writing.{shortest, shortest_blob, shortest_signed}
use Rattle.yd_num.specs.declared.signed.Signed.{Signed}

-- ---- runs

-- how many more than two values, where there are more than one
abbrev pub more_bytes : ℕ → List ℕ
more_bytes zero = []
more_bytes (suc more) = shortest more

-- a number, and how many more of it there are than two
abbrev pub counted_bytes : Signed → ℕ → List ℕ
counted_bytes number more = shortest_signed number ++ more_bytes more

-- a run of numbers
abbrev pub uint_run_bytes : Run ℕ → List ℕ
uint_run_bytes run = counted_bytes (record { negative = has_more run.more; size = run.value }) run.more

-- an integer with its sign; zero has none
abbrev pub signed_of : ℤ → Signed
signed_of (pos n) = record { negative = false; size = n }
signed_of (negsuc n) = record { negative = true; size = suc n }

-- a run of differences
abbrev pub diff_run_bytes : Run ℤ → List ℕ
diff_run_bytes run = counted_bytes (signed_of (doubled run)) run.more

-- a run of bytes
abbrev pub byte_run_bytes : Run ℕ → List ℕ
byte_run_bytes run = run.value ∷ shortest run.more

-- a last run of bytes, whose count is left out
abbrev pub last_byte : Run ℕ → List ℕ
last_byte run = run.value ∷ []

-- ---- columns in runs

-- the bytes of the runs that are closed, and the run in hand, if there is one
pub record RunsWritten (V : Type 0) : Type 0 where
  pub bytes : List ℕ
  pub hand : Option (Run V)

-- these bytes are written, and this run is in hand
abbrev pub written : {V : Type 0} → List ℕ → Option (Run V) → RunsWritten V
written bytes hand = record { bytes = bytes; hand = hand }

-- nothing is written
abbrev pub no_runs : {V : Type 0} → RunsWritten V
no_runs = record { bytes = []; hand = None }

-- a value that stands once
abbrev pub one : {V : Type 0} → V → Run V
one value = record { value = value; more = 0 }

-- the run takes the value too: it is the same, and the run has less than it can have
abbrev pub takes : {V : Type 0} → (V → V → Bool) → ℕ → V → Run V → Bool
takes same most value run = if same run.value value then nat_lt run.more most else false

-- a value behind the run in hand: one more of it, or the first of a new run
abbrev pub put_behind : {V : Type 0} → (Run V → List ℕ) → (V → V → Bool) → ℕ → V → List ℕ → Option (Run V) → RunsWritten V
put_behind spell same most value bytes None = record { bytes = bytes; hand = Some (one value) }
put_behind spell same most value bytes (Some run) =
    if takes same most value run then record { bytes = bytes; hand = Some (record { value = run.value; more = suc run.more }) }
    else record { bytes = bytes ++ spell run; hand = Some (one value) }

-- the bytes of a run in hand, if there is one
abbrev pub hand_bytes : {V : Type 0} → (Run V → List ℕ) → Option (Run V) → List ℕ
hand_bytes spell None = []
hand_bytes spell (Some run) = spell run

-- ---- the four columns

-- one more number; a run has at most 2^53+1 of them, since 2^53-1 is the greatest count that is read
abbrev pub put_uint : ℕ → RunsWritten ℕ → RunsWritten ℕ
put_uint v runs = put_behind uint_run_bytes nat_eq (2 ^ 53) v runs.bytes runs.hand

-- a column of numbers
abbrev pub uint_column : RunsWritten ℕ → List ℕ
uint_column runs = runs.bytes ++ hand_bytes uint_run_bytes runs.hand

-- what is written of a column of differences: these, and the last value
pub record DiffsWritten : Type 0 where
  pub last : ℕ
  pub runs : RunsWritten ℤ

-- nothing is written
abbrev pub no_diffs : DiffsWritten
no_diffs = record { last = 0; runs = no_runs }

-- one more difference; a run has at most 2^53+1 of them
abbrev pub put_step : ℤ → RunsWritten ℤ → RunsWritten ℤ
put_step step runs = put_behind diff_run_bytes int_eq (2 ^ 53) step runs.bytes runs.hand

-- one more number, by its difference from the last one
abbrev pub put_diff : ℕ → DiffsWritten → DiffsWritten
put_diff v diffs = record { last = v; runs = put_step (pos v -ℤ pos diffs.last) diffs.runs }

-- a column of differences
abbrev pub diff_column : DiffsWritten → List ℕ
diff_column diffs = diffs.runs.bytes ++ hand_bytes diff_run_bytes diffs.runs.hand

-- one more byte; a run has at most 2^53 of them
abbrev pub put_byte : ℕ → RunsWritten ℕ → RunsWritten ℕ
put_byte b runs = put_behind byte_run_bytes nat_eq (2 ^ 53 - 1) b runs.bytes runs.hand

-- a column of bytes; the count of the last run is left out
abbrev pub byte_column : RunsWritten ℕ → List ℕ
byte_column runs = runs.bytes ++ hand_bytes last_byte runs.hand

-- what is written of a column of strings: the text that joins them, and their lengths
pub record StringsWritten : Type 0 where
  pub text : List ℕ
  pub lengths : RunsWritten ℕ

-- nothing is written
abbrev pub no_strings : StringsWritten
no_strings = record { text = []; lengths = no_runs }

-- one more string
abbrev pub put_string : List ℕ → StringsWritten → StringsWritten
put_string string strings = record { text = strings.text ++ string; lengths = put_uint (units_in string) strings.lengths }

-- a column of strings: the text, and then how many units each has
abbrev pub string_column : StringsWritten → List ℕ
string_column strings = shortest_blob strings.text ++ uint_column strings.lengths

-- values put one behind the other
abbrev pub put_all : {V W : Type 0} → (V → W → W) → List V → W → W
put_all put [] so_far = so_far
put_all put (v ∷ vs) so_far = put_all put vs (put v so_far)
