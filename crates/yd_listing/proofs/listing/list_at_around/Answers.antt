use Rattle.std.proofs.Common.{◌<◌, ◌∙◌, sym, ap, subst}
use Rattle.yd_words.specs.Each.{Each}
use Rattle.yd_words.specs.Member.{IsIn}
use Rattle.yd_arena.specs.Arena.{count_of, places_in}
use Rattle.yd_store.specs.Store.{Stored}
use Rattle.yd_listing.specs.Lending.{lent_from_place, HasNoGone, StandsBefore}
use Rattle.yd_listing.specs.Listing.{HasRoom}
use Rattle.yd_listing.proofs.StandingLemmas.{all_around, stands_around, before_member, from_ranged}
use Rattle.yd_listing.proofs.listing.list_at_around.Goals as goal

pub place_before-requires : goal.place_before-requires
place_before-requires c = subst (λ (s : Stored). c.args.n < count_of s.placed) (sym c.store.ensures.value) c.requires.within

pub returns-in-None : goal.returns-in-None
returns-in-None c = λ document tells name e. all_around c.args.id _ _ (c.list_at.ensures document tells name e)

pub walk_from-requires-clause-list : goal.walk_from-requires-clause-list
walk_from-requires-clause-list c = subst (λ (s : Stored). c.args.n < count_of s.placed) (sym c.store-in-Some.ensures.value) c.requires.within

pub walk_from-requires-clause-told : goal.walk_from-requires-clause-told
walk_from-requires-clause-told c = subst (λ (s : Stored). HasNoGone s c.args.n) (sym c.store-in-Some.ensures.value) (c.requires.told.told c.args.n c.requires.within)

pub walk_from-requires-clause-place : goal.walk_from-requires-clause-place
walk_from-requires-clause-place c =
    let b = subst (λ (s : Stored). StandsBefore s c.args.n c.args.id c.in-Some.place) c.store.ensures.value c.in-Some.ensures in
    subst (λ (s : Stored). IsIn c.in-Some.place (places_in s.placed c.args.n)) (sym c.store-in-Some.ensures.value)
    (before_member c.args.kept.now.store c.store.ensures.arena c.store.ensures.lists c.store.ensures.told c.args.n c.requires.within c.args.id c.in-Some.place b)

pub invariant_of-result : goal.invariant_of-result
invariant_of-result c =
    let b = subst (λ (s : Stored). StandsBefore s c.args.n c.args.id c.in-Some.place) c.store.ensures.value c.in-Some.ensures in
    let i = before_member c.args.kept.now.store c.store.ensures.arena c.store.ensures.lists c.store.ensures.told c.args.n c.requires.within c.args.id c.in-Some.place b in
    subst (Each HasRoom) (sym (c.walk_from.ensures ∙ ap (λ (s : Stored). lent_from_place s c.args.n c.in-Some.place) c.store-in-Some.ensures.value))
    (from_ranged c.args.kept.now c.args.n c.in-Some.place c.requires.told c.store.ensures.arena c.store.ensures.lists c.store.ensures.told c.requires.within i)

pub returns-in-Some : goal.returns-in-Some
returns-in-Some c = λ document tells name e.
    let b = subst (λ (s : Stored). StandsBefore s c.args.n c.args.id c.in-Some.place) c.store.ensures.value c.in-Some.ensures in
    stands_around c.args.kept.now document c.args.n name c.args.id c.store.ensures.arena c.store.ensures.lists c.store.ensures.told c.requires.within tells e c.in-Some.place b _
    (c.walk_from.ensures ∙ ap (λ (s : Stored). lent_from_place s c.args.n c.in-Some.place) c.store-in-Some.ensures.value)
