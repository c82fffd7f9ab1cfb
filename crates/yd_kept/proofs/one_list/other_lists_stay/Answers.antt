use Rattle.yd_kept.proofs.PlacingLemmas.{other_lists_stay}
use Rattle.yd_kept.proofs.one_list.other_lists_stay.Goals as goal

pub returns : goal.returns
returns c = other_lists_stay
