use Rattle.yd_state.proofs.ViewLemmas.{whole_units}
use Rattle.yd_state.proofs.listing.whole.Goals as goal

pub returns-clause-units : goal.returns-clause-units
returns-clause-units c = whole_units c.args.run c.requires.len
