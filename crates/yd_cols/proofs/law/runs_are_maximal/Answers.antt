use Rattle.yd_cols.proofs.ColumnLemmas.{bytes_maximal, diffs_maximal, strings_joined, uints_maximal}
use Rattle.yd_cols.proofs.law.runs_are_maximal.Goals as goal

pub returns : goal.returns
returns c = record { uints = uints_maximal; diffs = diffs_maximal; bytes = bytes_maximal; strings = strings_joined }
