-- What is written of values in range stands for them.
use Rattle.std.proofs.Common.{ℕ, ◌^◌, ◌<◌, pos, List, [], ◌∷◌, length, map, IsUtf8, arith, length-append}
use Rattle.std.specs.Prelude.{◌-ℤ◌}
use Rattle.std.proofs.lemmas.Int.{ints}
use Rattle.std.proofs.lemmas.Str.{IsUtf8-append, IsUtf8-nil}
use Rattle.std.specs.List.{AllByRecursion, concat}
use Rattle.yd_cols.specs.Column.{SpellsBytes, SpellsDiffs, SpellsStrings, SpellsUints, differences, units_in}
use Rattle.yd_cols.specs.Writable.{IsStep}
use Rattle.yd_cols.specs.Writing.{byte_column, diff_column, no_diffs, no_runs, no_strings, put_all, put_byte, put_diff, put_string, put_uint, string_column, uint_column}
use Rattle.yd_cols.proofs.ColumnLemmas.{bytes_maximal, diffs_maximal, strings_joined, uints_maximal}
use Rattle.yd_cols.proofs.SpelledLemmas.{bytes_spelled, diffs_spelled, uints_spelled}
use Rattle.yd_cols.proofs.UnitLemmas.{units_in-le}
use Rattle.yd_num.proofs.WrittenLemmas.{text_spells}
use Rattle.yd_num.specs.Writing.{shortest_blob}

-- ---- in range

is_step : (before v : ℕ) → before < 2 ^ 53 → v < 2 ^ 53 → IsStep (pos v -ℤ pos before)
is_step before v lt lt' = record { above = omega (arith, ints); below = omega (arith, ints) }

steps_fit : (before : ℕ) (values : List ℕ) → before < 2 ^ 53 → AllByRecursion (λ v. v < 2 ^ 53) values → AllByRecursion IsStep (differences before values)
steps_fit before [] lt all = tt
steps_fit before (v ∷ vs) lt all = (is_step before v lt all.0, steps_fit v vs all.0 all.1)

pub concat_text : (strings : List (List ℕ)) → AllByRecursion IsUtf8 strings → IsUtf8 (concat strings)
concat_text [] all = IsUtf8-nil
concat_text (s ∷ strings) all = IsUtf8-append s (concat strings) all.0 (concat_text strings all.1)

lengths_fit : (strings : List (List ℕ)) → AllByRecursion IsUtf8 strings → length (concat strings) < 2 ^ 53 → AllByRecursion (λ v. v < 2 ^ 53) (map units_in strings)
lengths_fit [] all lt = tt
lengths_fit (s ∷ strings) all lt =
    let joined = length-append s (concat strings) in
    (omega (arith, units_in-le s all.0, joined), lengths_fit strings all.1 (omega (arith, joined)))

-- ---- lemmas for callers

pub uints_back : (values : List ℕ) → AllByRecursion (λ v. v < 2 ^ 53) values → SpellsUints (uint_column (put_all put_uint values no_runs)) values
uints_back values all = uints_spelled _ values all (uints_maximal values)

pub diffs_back : (values : List ℕ) → AllByRecursion (λ v. v < 2 ^ 53) values → SpellsDiffs (diff_column (put_all put_diff values no_diffs)) values
diffs_back values all = record { in_range = all; spelled = diffs_spelled _ (differences 0 values) (steps_fit 0 values (omega arith) all) (diffs_maximal values) }

pub bytes_back : (values : List ℕ) → SpellsBytes (byte_column (put_all put_byte values no_runs)) values
bytes_back values = bytes_spelled _ values (bytes_maximal values)

pub strings_back : (strings : List (List ℕ)) → AllByRecursion IsUtf8 strings → length (concat strings) < 2 ^ 53 → SpellsStrings (string_column (put_all put_string strings no_strings)) strings
strings_back strings all lt = record {
  spelled = record {
    front = shortest_blob (concat strings);
    back = uint_column (put_all put_uint (map units_in strings) no_runs);
    is_front = text_spells (concat strings) (lt, concat_text strings all);
    is_back = uints_back (map units_in strings) (lengths_fit strings all lt);
    joined = strings_joined strings;
  };
  are_texts = all;
}
