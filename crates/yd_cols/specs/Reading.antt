-- Reading a column value by value: what is left of it, and what the next value is, or what is wrong and where.
use Rattle.std.specs.Prelude.{ℕ, zero, suc, ◌+◌, ◌-◌, ◌/◌, ◌%◌, ◌^◌, ℤ, pos, negsuc, neg_ℤ, ◌+ℤ◌, Bool, true, false, List, [], ◌∷◌, length, Result, Ok, Err, Option, Some, None, nat_eq, nat_lt, if◌then◌else◌, encode_utf8_all}
use Rattle.std.specs.Str.{chars}
use Rattle.yd_cols.specs.declared.run.Run.{Run}
use Rattle.yd_cols.specs.declared.fault.ColCause.{ColCause}
use Rattle.yd_cols.specs.declared.fault.ColCause.TheVariants.{ShortInput, NumberTooLarge, BadUtf8, HalfPair, ColumnLeft}
use Rattle.yd_cols.specs.declared.fault.ColFault.{ColFault}
use Rattle.yd_num.specs.Number.{unsigned_at}
use Rattle.yd_num.specs.Reading.{Cause, short_input, number_too_large, bad_utf8, ◌>>=◌}
use Rattle.yd_num.specs.Signed.{signed_at}
use Rattle.yd_num.specs.Text.{text_at}
use Rattle.yd_num.specs.declared.signed.Signed.{Signed}

-- ---- what is left

-- what is left of a column in runs: the value in hand, how many more of it are left, where its run begins, and the bytes behind that run with their place
pub record RunsLeft (V : Type 0) : Type 0 where
  pub value : V
  pub more : ℕ
  pub at : ℕ
  pub place : ℕ
  pub bytes : List ℕ

-- no run is in hand, and these bytes are left, from this place on
abbrev pub runs_from : {V : Type 0} → V → ℕ → List ℕ → RunsLeft V
runs_from value place bytes = record { value = value; more = 0; at = place; place = place; bytes = bytes }

-- what is left of a column of differences: these, and the value before the next one
pub record DiffsLeft : Type 0 where
  pub before : ℕ
  pub runs : RunsLeft ℤ

-- what is left of a column of bytes: its runs, and whether the run in hand is one without a count
pub record BytesLeft : Type 0 where
  pub is_open : Bool
  pub runs : RunsLeft ℕ

-- what is left of a column of strings: the text that joins them, and their lengths
pub record StringsLeft : Type 0 where
  pub text : List ℕ
  pub lengths : RunsLeft ℕ

-- a whole column of numbers
abbrev pub uints_in : List ℕ → RunsLeft ℕ
uints_in bytes = runs_from 0 0 bytes

-- a whole column of differences
abbrev pub diffs_in : List ℕ → DiffsLeft
diffs_in bytes = record { before = 0; runs = runs_from (pos 0) 0 bytes }

-- a whole column of bytes
abbrev pub bytes_in : List ℕ → BytesLeft
bytes_in bytes = record { is_open = false; runs = runs_from 0 0 bytes }

-- ---- runs

-- the cause in the words of columns
abbrev pub of_number : Cause → ColCause
of_number short_input = ShortInput
of_number number_too_large = NumberTooLarge
of_number bad_utf8 = BadUtf8

-- how many more values a run has than one, behind its number
unfoldable pub more_at : Bool → List ℕ → Result (ℕ × List ℕ) Cause
more_at false bytes = Ok (0, bytes)
more_at true bytes = do
  count ← unsigned_at bytes
  Ok (suc count.0, count.1)

-- a run of numbers
unfoldable pub uint_run_at : List ℕ → Result (Run ℕ × List ℕ) Cause
uint_run_at bytes = do
  number ← signed_at bytes
  if nat_lt number.0.size (2 ^ 53) then (do
    more ← more_at number.0.negative number.1
    Ok (record { value = number.0.size; more = more.0 }, more.1)) else Err number_too_large

-- half of a number, rounded down
abbrev pub half_of : Signed → ℤ
half_of number = if number.negative then neg_ℤ (pos ((number.size + 1) / 2)) else pos (number.size / 2)

-- a run of differences
unfoldable pub diff_run_at : List ℕ → Result (Run ℤ × List ℕ) Cause
diff_run_at bytes = do
  number ← signed_at bytes
  more ← more_at (nat_eq (number.0.size % 2) 1) number.1
  Ok (record { value = half_of number.0; more = more.0 }, more.1)

-- a run of bytes, and whether it is one without a count, behind which nothing stands
unfoldable pub byte_run_at : List ℕ → Result ((Run ℕ × Bool) × List ℕ) Cause
byte_run_at [] = Err short_input
byte_run_at (b ∷ []) = Ok ((record { value = b; more = 0 }, true), [])
byte_run_at (b ∷ c ∷ rest) = do
  more ← unsigned_at (c ∷ rest)
  Ok ((record { value = b; more = more.0 }, false), more.1)

-- ---- values

-- one reading, and behind it the next one
abbrev pub and_then : {A B E : Type 0} → Result A E → (A → Result B E) → Result B E
and_then (Ok x) next = next x
and_then (Err fault) next = Err fault

-- the run that was read is in hand, and its first value is given
abbrev pub opened : {V : Type 0} → RunsLeft V → Result (Run V × List ℕ) Cause → Result (V × RunsLeft V) ColFault
opened left (Ok read) = Ok (read.0.value, record { value = read.0.value; more = read.0.more; at = left.place; place = (left.place + length left.bytes) - length read.1; bytes = read.1 })
opened left (Err cause) = Err (record { cause = of_number cause; at = left.place })

-- the next value, of which so many are in hand, or the first of the next run
abbrev pub next_of : {V : Type 0} → (List ℕ → Result (Run V × List ℕ) Cause) → RunsLeft V → ℕ → Result (V × RunsLeft V) ColFault
next_of run_at left zero = opened left (run_at left.bytes)
next_of run_at left (suc more) = Ok (left.value, record { value = left.value; more = more; at = left.at; place = left.place; bytes = left.bytes })

-- the next value of a column in runs
unfoldable pub next_in : {V : Type 0} → (List ℕ → Result (Run V × List ℕ) Cause) → RunsLeft V → Result (V × RunsLeft V) ColFault
next_in run_at left = next_of run_at left left.more

-- the next number
abbrev pub next_uint : RunsLeft ℕ → Result (ℕ × RunsLeft ℕ) ColFault
next_uint left = next_in uint_run_at left

-- an integer that is a number in range
abbrev pub in_range : ℤ → Option ℕ
in_range (pos v) = if nat_lt v (2 ^ 53) then Some v else None
in_range (negsuc n) = None

-- the value that was stepped to, unless it is out of range
abbrev pub stepped : RunsLeft ℤ → Option ℕ → Result (ℕ × DiffsLeft) ColFault
stepped runs (Some v) = Ok (v, record { before = v; runs = runs })
stepped runs None = Err (record { cause = NumberTooLarge; at = runs.at })

-- the next number, by its difference from the one before
unfoldable pub next_diff : DiffsLeft → Result (ℕ × DiffsLeft) ColFault
next_diff left = and_then (next_in diff_run_at left.runs) (λ step. stepped step.1 (in_range (pos left.before +ℤ step.0)))

-- the run of bytes that was read is in hand, and its first byte is given
abbrev pub opened_byte : RunsLeft ℕ → Result ((Run ℕ × Bool) × List ℕ) Cause → Result (ℕ × BytesLeft) ColFault
opened_byte left (Ok read) = Ok (
  read.0.0.value,
  record {
    is_open = read.0.1;
    runs = record { value = read.0.0.value; more = read.0.0.more; at = left.place; place = (left.place + length left.bytes) - length read.1; bytes = read.1 };
  },
)
opened_byte left (Err cause) = Err (record { cause = of_number cause; at = left.place })

-- the next byte of a run with a count, of which so many are in hand, or the first of the next run
abbrev pub counted_byte : RunsLeft ℕ → ℕ → Result (ℕ × BytesLeft) ColFault
counted_byte left zero = opened_byte left (byte_run_at left.bytes)
counted_byte left (suc more) = Ok (left.value, record { is_open = false; runs = record { value = left.value; more = more; at = left.at; place = left.place; bytes = left.bytes } })

-- the next byte; a last run without a count gives it as often as it is asked
unfoldable pub next_byte : BytesLeft → Result (ℕ × BytesLeft) ColFault
next_byte left = if left.is_open then Ok (left.runs.value, left) else counted_byte left.runs left.runs.more

-- ---- strings

-- so many units at the front of characters, and the others; none may be parted
abbrev pub chars_at : ℕ → List ℕ → Result (List ℕ × List ℕ) ColCause
chars_at zero cs = Ok ([], cs)
chars_at (suc units) [] = Err ShortInput
chars_at (suc zero) (c ∷ cs) = if nat_lt c (2 ^ 16) then Ok (c ∷ [], cs) else Err HalfPair
chars_at (suc (suc units)) (c ∷ cs) = and_then (if nat_lt c (2 ^ 16) then chars_at (suc units) cs else chars_at units cs) (λ read. Ok (c ∷ read.0, read.1))

-- a string of so many units at the front of a text
unfoldable pub string_at : ℕ → List ℕ → Result (List ℕ × List ℕ) ColCause
string_at units text = and_then (chars_at units (chars text)) (λ read. Ok (encode_utf8_all read.0, encode_utf8_all read.1))

-- the string is given, and its length is read; what is wrong stands at the run of that
abbrev pub given_string : RunsLeft ℕ → Result (List ℕ × List ℕ) ColCause → Result (List ℕ × StringsLeft) ColFault
given_string lengths (Ok read) = Ok (read.0, record { text = read.1; lengths = lengths })
given_string lengths (Err cause) = Err (record { cause = cause; at = lengths.at })

-- the next string
unfoldable pub next_string : StringsLeft → Result (List ℕ × StringsLeft) ColFault
next_string left = and_then (next_uint left.lengths) (λ length. given_string length.1 (string_at length.0 left.text))

-- a whole column of strings, or what is wrong with the text that joins them
abbrev pub strings_of : List ℕ → Result (List ℕ × List ℕ) Cause → Result StringsLeft ColFault
strings_of bytes (Ok read) = Ok (record { text = read.0; lengths = runs_from 0 (length bytes - length read.1) read.1 })
strings_of bytes (Err cause) = Err (record { cause = of_number cause; at = 0 })

-- a whole column of strings
unfoldable pub strings_in : List ℕ → Result StringsLeft ColFault
strings_in bytes = strings_of bytes (text_at bytes)

-- ---- the end

-- no value of the runs is left
abbrev pub runs_done : {V : Type 0} → RunsLeft V → ℕ → List ℕ → Result (Unit {0}) ColFault
runs_done left zero [] = Ok tt
runs_done left zero (b ∷ bytes) = Err (record { cause = ColumnLeft; at = left.place })
runs_done left (suc more) bytes = Err (record { cause = ColumnLeft; at = left.at })

-- the end of a column in runs, or the first run that is left
abbrev pub end_of_runs : {V : Type 0} → RunsLeft V → Result (Unit {0}) ColFault
end_of_runs left = runs_done left left.more left.bytes

-- the end of a column of numbers
abbrev pub end_of_uints : RunsLeft ℕ → Result (Unit {0}) ColFault
end_of_uints left = end_of_runs left

-- the end of a column of differences
abbrev pub end_of_diffs : DiffsLeft → Result (Unit {0}) ColFault
end_of_diffs left = end_of_runs left.runs

-- the end of a column of bytes; a last run without a count is read once a byte of it was given
abbrev pub end_of_bytes : BytesLeft → Result (Unit {0}) ColFault
end_of_bytes left = if left.is_open then Ok tt else end_of_runs left.runs

-- no text is left behind the lengths
abbrev pub text_done : RunsLeft ℕ → List ℕ → Result (Unit {0}) ColFault
text_done lengths [] = Ok tt
text_done lengths (b ∷ text) = Err (record { cause = ColumnLeft; at = lengths.place })

-- the end of a column of strings: of its lengths, and then of its text
abbrev pub end_of_strings : StringsLeft → Result (Unit {0}) ColFault
end_of_strings left = and_then (end_of_runs left.lengths) (λ done. text_done left.lengths left.text)
