use Rattle.yd_kept.proofs.FillingLemmas.{filling_goes_on}
use Rattle.yd_kept.proofs.law.filling_goes_on.Goals as goal

pub returns : goal.returns
returns c = filling_goes_on
