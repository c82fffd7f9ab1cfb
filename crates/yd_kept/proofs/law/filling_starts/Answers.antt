use Rattle.yd_kept.proofs.FillingLemmas.{filling_starts}
use Rattle.yd_kept.proofs.law.filling_starts.Goals as goal

pub returns : goal.returns
returns c = filling_starts
