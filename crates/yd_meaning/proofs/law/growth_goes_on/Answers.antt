use Rattle.yd_meaning.proofs.GrowthLemmas.{grows_on, grown_from_nothing, grown_distinct}
use Rattle.yd_meaning.proofs.law.growth_goes_on.Goals as goal

pub returns : goal.returns
returns c = record { further = grows_on; closed = grown_from_nothing; once = grown_distinct }
