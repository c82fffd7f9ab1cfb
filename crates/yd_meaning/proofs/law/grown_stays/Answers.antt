use Rattle.yd_meaning.proofs.GrownStayingLemmas.{stays_grown}
use Rattle.yd_meaning.proofs.law.grown_stays.Goals as goal

pub returns : goal.returns
returns c = stays_grown
