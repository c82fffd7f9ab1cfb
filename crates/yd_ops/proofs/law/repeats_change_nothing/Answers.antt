use Rattle.yd_ops.proofs.CoveringLemmas.{after_again}
use Rattle.yd_ops.proofs.law.repeats_change_nothing.Goals as goal

pub returns : goal.returns
returns c = after_again
