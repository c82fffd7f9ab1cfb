use Rattle.yd_subsets.proofs.PartLemmas.{parts_are_their_ids}
use Rattle.yd_subsets.proofs.law.parts_are_their_ids.Goals as goal

pub returns : goal.returns
returns c = parts_are_their_ids
