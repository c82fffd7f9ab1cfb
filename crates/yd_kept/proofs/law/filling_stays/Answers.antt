use Rattle.yd_kept.proofs.FillingLemmas.{filling_stays}
use Rattle.yd_kept.proofs.law.filling_stays.Goals as goal

pub returns : goal.returns
returns c = filling_stays
