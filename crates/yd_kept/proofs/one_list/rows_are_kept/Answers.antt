use Rattle.yd_kept.proofs.KeepingLemmas.{rows_are_kept}
use Rattle.yd_kept.proofs.one_list.rows_are_kept.Goals as goal

pub returns : goal.returns
returns c = rows_are_kept
