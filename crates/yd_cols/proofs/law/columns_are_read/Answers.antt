use Rattle.yd_cols.proofs.ByteLemmas.{byte_whole}
use Rattle.yd_cols.proofs.DiffLemmas.{diff_whole}
use Rattle.yd_cols.proofs.StartLemmas.{bytes_start, diffs_start, uints_start}
use Rattle.yd_cols.proofs.StringColumnLemmas.{strings_start, strings_whole}
use Rattle.yd_cols.proofs.UintLemmas.{uint_whole}
use Rattle.yd_cols.proofs.law.columns_are_read.Goals as goal

pub returns : goal.returns
returns c = record {
  uints = uint_whole;
  diffs = diff_whole;
  bytes = byte_whole;
  strings = strings_whole uint_whole;
  uints_start = uints_start;
  diffs_start = diffs_start;
  bytes_start = bytes_start;
  strings_start = strings_start;
}
