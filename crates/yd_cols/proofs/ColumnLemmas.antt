-- The four columns are written in maximal runs.
use Rattle.std.proofs.Common.{◌≡◌, ℕ, ◌-◌, ◌^◌, List, [], ◌∷◌, ◌++◌, map, nat_eq, refl, sym, ap, ◌∙◌, append_assoc, append-nil}
use Rattle.std.proofs.lemmas.Bool.Decides.{Decides-eqb, Decides-int_eq}
use Rattle.std.specs.List.{concat}
use Rattle.std.specs.Ordering.{int_eq}
use Rattle.yd_cols.specs.Column.{differences, units_in}
use Rattle.yd_cols.specs.Law.{IsMaximal}
use Rattle.yd_cols.specs.Writing.{DiffsWritten, StringsWritten, byte_column, byte_run_bytes, diff_column, diff_run_bytes, last_byte, no_diffs, no_runs, no_strings, put_all, put_byte, put_diff, put_step, put_string, put_uint, string_column, uint_column, uint_run_bytes}
use Rattle.yd_cols.proofs.RunLemmas.{are_maximal}
use Rattle.yd_num.specs.Writing.{shortest_blob}

-- ---- how columns are put

-- numbers by their differences are put as these
diffs_put : (values : List ℕ) (diffs : DiffsWritten) → (put_all put_diff values diffs).runs ≡ put_all put_step (differences diffs.last values) diffs.runs
diffs_put [] diffs = refl
diffs_put (v ∷ vs) diffs = diffs_put vs (put_diff v diffs)

-- strings are put as their text and their lengths
strings_put : (strings : List (List ℕ)) (so_far : StringsWritten)
    → put_all put_string strings so_far ≡ record { text = so_far.text ++ concat strings; lengths = put_all put_uint (map units_in strings) so_far.lengths }
strings_put [] so_far = ap (λ (text : List ℕ). record { text = text; lengths = so_far.lengths }) (sym (append-nil so_far.text))
strings_put (s ∷ rest) so_far =
    strings_put rest (put_string s so_far)
    ∙ ap (λ (text : List ℕ). record { text = text; lengths = put_all put_uint (map units_in (s ∷ rest)) so_far.lengths }) (append_assoc so_far.text s (concat rest))

-- ---- lemmas for callers

pub uints_maximal : (values : List ℕ) → IsMaximal uint_run_bytes uint_run_bytes (2 ^ 53) (uint_column (put_all put_uint values no_runs)) values
uints_maximal values = are_maximal uint_run_bytes uint_run_bytes nat_eq Decides-eqb (2 ^ 53) values

pub bytes_maximal : (values : List ℕ) → IsMaximal byte_run_bytes last_byte (2 ^ 53 - 1) (byte_column (put_all put_byte values no_runs)) values
bytes_maximal values = are_maximal byte_run_bytes last_byte nat_eq Decides-eqb (2 ^ 53 - 1) values

pub diffs_maximal : (values : List ℕ) → IsMaximal diff_run_bytes diff_run_bytes (2 ^ 53) (diff_column (put_all put_diff values no_diffs)) (differences 0 values)
diffs_maximal values = rw (diffs_put values no_diffs) (are_maximal diff_run_bytes diff_run_bytes int_eq Decides-int_eq (2 ^ 53) (differences 0 values))

pub strings_joined : (strings : List (List ℕ)) → string_column (put_all put_string strings no_strings) ≡ shortest_blob (concat strings) ++ uint_column (put_all put_uint (map units_in strings) no_runs)
strings_joined strings = ap string_column (strings_put strings no_strings)
