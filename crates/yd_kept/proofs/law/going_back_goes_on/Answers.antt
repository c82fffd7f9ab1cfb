use Rattle.yd_kept.proofs.GoingLemmas.{going_back_goes_on}
use Rattle.yd_kept.proofs.law.going_back_goes_on.Goals as goal

pub returns : goal.returns
returns c = going_back_goes_on
