use Rattle.yd_ops.proofs.CoveringLemmas.{nothing_new, new_covers}
use Rattle.yd_ops.proofs.law.nothing_new.Goals as goal

pub returns : goal.returns
returns c = λ r update is. (new_covers r update is, nothing_new r update is)
