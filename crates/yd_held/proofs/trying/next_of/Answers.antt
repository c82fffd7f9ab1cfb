use Rattle.yd_held.proofs.TryingLemmas.{next_is}
use Rattle.yd_held.proofs.trying.next_of.Goals as goal

pub returns : goal.returns
returns c = next_is c.args.vector.now c.args.client c.get.result c.args.received.now.entries c.find_start.result c.get.ensures.reached c.find_start.ensures.found c.find_start.ensures.none
