use Rattle.yd_listing.proofs.ListingLemmas.{left_ranged}
use Rattle.yd_listing.proofs.listing.last_in_range.Goals as goal

pub returns-clause-within : goal.returns-clause-within
returns-clause-within c = left_ranged c.args.walk.now c.last.result c.last.ensures.last c.last.ensures.some c.last.ensures.len c.requires
