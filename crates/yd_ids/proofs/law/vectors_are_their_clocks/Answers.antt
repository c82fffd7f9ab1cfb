use Rattle.yd_ids.proofs.VectorLemmas.{vectors_same}
use Rattle.yd_ids.proofs.law.vectors_are_their_clocks.Goals as goal

pub returns : goal.returns
returns c = vectors_same
