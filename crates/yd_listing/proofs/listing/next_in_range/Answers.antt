use Rattle.yd_listing.proofs.ListingLemmas.{next_ranged}
use Rattle.yd_listing.proofs.listing.next_in_range.Goals as goal

pub returns-clause-within : goal.returns-clause-within
returns-clause-within c = (next_ranged c.args.walk.now c.next.new.self c.next.result c.next.ensures.lends c.next.ensures.some c.next.ensures.len c.next.ensures.ended
    c.requires).0

pub returns-clause-still : goal.returns-clause-still
returns-clause-still c = (next_ranged c.args.walk.now c.next.new.self c.next.result c.next.ensures.lends c.next.ensures.some c.next.ensures.len c.next.ensures.ended
    c.requires).1
