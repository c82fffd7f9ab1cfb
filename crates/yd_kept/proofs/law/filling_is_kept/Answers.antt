use Rattle.yd_kept.proofs.FillingLemmas.{filling_is_kept}
use Rattle.yd_kept.proofs.law.filling_is_kept.Goals as goal

pub returns : goal.returns
returns c = filling_is_kept
