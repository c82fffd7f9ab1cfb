use Rattle.yd_cols.proofs.BackLemmas.{bytes_back, diffs_back, strings_back, uints_back}
use Rattle.yd_cols.proofs.law.columns_come_back.Goals as goal

pub returns : goal.returns
returns c = record { uints = uints_back; diffs = diffs_back; bytes = bytes_back; strings = strings_back }
