use Rattle.yd_listing.proofs.ListingLemmas.{back_ranged}
use Rattle.yd_listing.proofs.listing.back_in_range.Goals as goal

pub returns-clause-within : goal.returns-clause-within
returns-clause-within c = (back_ranged c.args.walk.now c.next_back.new.self c.next_back.result c.next_back.ensures.lends c.next_back.ensures.some c.next_back.ensures.len
    c.next_back.ensures.ended c.requires).0

pub returns-clause-still : goal.returns-clause-still
returns-clause-still c = (back_ranged c.args.walk.now c.next_back.new.self c.next_back.result c.next_back.ensures.lends c.next_back.ensures.some c.next_back.ensures.len
    c.next_back.ensures.ended c.requires).1
