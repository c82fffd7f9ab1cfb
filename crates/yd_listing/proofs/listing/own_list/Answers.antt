use Rattle.yd_listing.specs.Listing.{own_name}
use Rattle.yd_listing.proofs.ListingLemmas.{none_lent}
use Rattle.yd_listing.proofs.listing.own_list.Goals as goal

pub returns-in-Some : goal.returns-in-Some
returns-in-Some c = λ document tells. c.list_at.ensures document tells (own_name c.args.parent.now) c.in-Some.ensures.there

pub returns-in-None : goal.returns-in-None
returns-in-None c = λ document tells. none_lent c.args.kept.now document (own_name c.args.parent.now) tells c.in-None.ensures.none
