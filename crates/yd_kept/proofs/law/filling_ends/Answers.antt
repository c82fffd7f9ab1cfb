use Rattle.yd_kept.proofs.FillingLemmas.{filling_ends}
use Rattle.yd_kept.proofs.law.filling_ends.Goals as goal

pub returns : goal.returns
returns c = filling_ends
