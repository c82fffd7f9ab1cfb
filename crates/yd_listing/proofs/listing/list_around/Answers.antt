use Rattle.std.proofs.Common.{[]}
use Rattle.yd_listing.proofs.ListingLemmas.{none_lent}
use Rattle.yd_listing.proofs.StandingLemmas.{all_around}
use Rattle.yd_listing.proofs.listing.list_around.Goals as goal

pub returns-in-Some : goal.returns-in-Some
returns-in-Some c = λ document tells. c.list_at_around.ensures document tells c.args.name.now c.in-Some.ensures.there

pub returns-in-None : goal.returns-in-None
returns-in-None c = λ document tells. all_around c.args.id _ [] (none_lent c.args.kept.now document c.args.name.now tells c.in-None.ensures.none)
