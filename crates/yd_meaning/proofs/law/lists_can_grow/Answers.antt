use Rattle.yd_meaning.proofs.ComingLemmas.{can_grow}
use Rattle.yd_meaning.proofs.law.lists_can_grow.Goals as goal

pub returns : goal.returns
returns c = can_grow
