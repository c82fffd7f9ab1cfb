use Rattle.std.proofs.Common.{◌<◌, ◌∙◌, sym, ap, subst}
use Rattle.yd_words.specs.Each.{Each}
use Rattle.yd_arena.specs.Arena.{count_of}
use Rattle.yd_store.specs.Store.{Stored}
use Rattle.yd_listing.specs.Lending.{lent_in, HasNoGone}
use Rattle.yd_listing.specs.Listing.{HasRoom}
use Rattle.yd_listing.proofs.ListingLemmas.{named_lent, list_ranged}
use Rattle.yd_listing.proofs.listing.list_at.Goals as goal

pub whole_walk-requires-clause-list : goal.whole_walk-requires-clause-list
whole_walk-requires-clause-list c = subst (λ (s : Stored). c.args.n < count_of s.placed) (sym c.store.ensures.value) c.requires.within

pub whole_walk-requires-clause-gone : goal.whole_walk-requires-clause-gone
whole_walk-requires-clause-gone c = subst (λ (s : Stored). HasNoGone s c.args.n) (sym c.store.ensures.value) (c.requires.told.told c.args.n c.requires.within)

pub invariant_of-result : goal.invariant_of-result
invariant_of-result c = subst (Each HasRoom) (sym (c.whole_walk.ensures ∙ ap (λ (s : Stored). lent_in s c.args.n) c.store.ensures.value))
    (list_ranged c.args.kept.now c.args.n c.requires.told c.store.ensures.arena c.store.ensures.lists c.store.ensures.told c.requires.within)

pub returns : goal.returns
returns c = λ document tells name e. c.whole_walk.ensures ∙ ap (λ (s : Stored). lent_in s c.args.n) c.store.ensures.value
    ∙ named_lent c.args.kept.now document c.args.n name c.store.ensures.arena c.store.ensures.lists c.store.ensures.told c.requires.within tells e
