use Rattle.yd_state.proofs.ViewLemmas.{end_units}
use Rattle.yd_state.proofs.listing.end_of.Goals as goal

pub returns-clause-last : goal.returns-clause-last
returns-clause-last c = end_units c.args.run c.requires.len c.requires.some
