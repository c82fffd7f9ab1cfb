use Rattle.yd_kept.proofs.BackLemmas.{going_back_is_again}
use Rattle.yd_kept.proofs.law.going_back_is_again.Goals as goal

pub returns : goal.returns
returns c = going_back_is_again
