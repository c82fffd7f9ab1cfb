use Rattle.yd_kept.proofs.PlacingLemmas.{same_rows_stay}
use Rattle.yd_kept.proofs.one_list.same_rows_stay.Goals as goal

pub returns : goal.returns
returns c = same_rows_stay
