use Rattle.yd_listing.proofs.StandingLemmas.{before_stands}
use Rattle.yd_listing.proofs.standing.place_before.Goals as goal

pub prev-requires : goal.prev-requires
prev-requires c = c.is_sound.ensures.lists.within c.args.list c.in_ok-place.place c.requires c.in_ok-place.ensures.there.member

pub returns : goal.returns
returns c = before_stands c.args.store.now c.args.list c.args.id c.in_ok-place.place c.prev.result c.in_ok-place.ensures.there
    (c.prev.ensures.value c.args.list c.requires c.in_ok-place.ensures.there.member)
