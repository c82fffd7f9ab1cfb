use Rattle.yd_meaning.proofs.HonestLemmas.{honest_set}
use Rattle.yd_meaning.proofs.GrownHonestLemmas.{grown_is_order}
use Rattle.yd_meaning.proofs.law.grown_is_order.Goals as goal

pub returns : goal.returns
returns c = record { order = grown_is_order; honest = honest_set }
