use Rattle.yd_ids.proofs.UnionLemmas.{sets_same}
use Rattle.yd_ids.proofs.law.sets_are_their_ids.Goals as goal

pub returns : goal.returns
returns c = sets_same
