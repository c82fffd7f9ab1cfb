use Rattle.std.proofs.Common.{sym}
use Rattle.yd_listing.proofs.ListingLemmas.{none_lent}
use Rattle.yd_listing.proofs.StandingLemmas.{none_from}
use Rattle.yd_listing.proofs.listing.list_from.Goals as goal

pub returns-in-Some : goal.returns-in-Some
returns-in-Some c = λ document tells. c.list_at_from.ensures document tells c.args.name.now c.in-Some.ensures.there

pub returns-in-None : goal.returns-in-None
returns-in-None c = λ document tells. none_from c.args.id _ (sym (none_lent c.args.kept.now document c.args.name.now tells c.in-None.ensures.none))
