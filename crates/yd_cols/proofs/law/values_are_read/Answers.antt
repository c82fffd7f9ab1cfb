use Rattle.yd_cols.proofs.ByteTakenLemmas.{byte_exact}
use Rattle.yd_cols.proofs.DiffLemmas.{diff_exact}
use Rattle.yd_cols.proofs.StringColumnLemmas.{strings_exact}
use Rattle.yd_cols.proofs.UintLemmas.{uint_exact}
use Rattle.yd_cols.proofs.law.values_are_read.Goals as goal

pub returns : goal.returns
returns c = record { uints = uint_exact; diffs = diff_exact; bytes = byte_exact; strings = strings_exact uint_exact }
