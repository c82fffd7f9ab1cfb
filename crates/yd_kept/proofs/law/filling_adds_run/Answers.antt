use Rattle.yd_kept.proofs.FillingLemmas.{filling_adds_run}
use Rattle.yd_kept.proofs.law.filling_adds_run.Goals as goal

pub returns : goal.returns
returns c = filling_adds_run
