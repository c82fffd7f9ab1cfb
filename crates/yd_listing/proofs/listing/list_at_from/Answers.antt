use Rattle.std.proofs.Common.{◌<◌, ◌∙◌, sym, ap, subst}
use Rattle.yd_words.specs.Each.{Each}
use Rattle.yd_words.specs.Member.{IsIn}
use Rattle.yd_arena.specs.Arena.{count_of, places_in}
use Rattle.yd_store.specs.Store.{Stored, StandsIn}
use Rattle.yd_listing.specs.Lending.{lent_from_place, HasNoGone, StandsAt}
use Rattle.yd_listing.specs.Listing.{HasRoom}
use Rattle.yd_listing.proofs.StandingLemmas.{apart_from, stands_from, from_ranged}
use Rattle.yd_listing.proofs.listing.list_at_from.Goals as goal

pub place_in-requires : goal.place_in-requires
place_in-requires c = subst (λ (s : Stored). c.args.n < count_of s.placed) (sym c.store.ensures.value) c.requires.within

pub returns-in-None : goal.returns-in-None
returns-in-None c = λ document tells name e. apart_from c.args.kept.now document c.args.n name c.args.id c.store.ensures.arena c.store.ensures.lists c.store.ensures.told
    c.requires.within tells e (subst (λ (s : Stored). StandsIn s.placed c.args.n c.args.id → ⊥) c.store.ensures.value c.in-None.ensures.none)

pub walk_from-requires-clause-list : goal.walk_from-requires-clause-list
walk_from-requires-clause-list c = subst (λ (s : Stored). c.args.n < count_of s.placed) (sym c.store-in-Some.ensures.value) c.requires.within

pub walk_from-requires-clause-told : goal.walk_from-requires-clause-told
walk_from-requires-clause-told c = subst (λ (s : Stored). HasNoGone s c.args.n) (sym c.store-in-Some.ensures.value) (c.requires.told.told c.args.n c.requires.within)

pub walk_from-requires-clause-place : goal.walk_from-requires-clause-place
walk_from-requires-clause-place c = subst (λ (s : Stored). IsIn c.in-Some.place (places_in s.placed c.args.n)) (c.store.ensures.value ∙ sym c.store-in-Some.ensures.value)
    c.in-Some.ensures.there.member

pub invariant_of-result : goal.invariant_of-result
invariant_of-result c =
    let i = subst (λ (s : Stored). IsIn c.in-Some.place (places_in s.placed c.args.n)) c.store.ensures.value c.in-Some.ensures.there.member in
    subst (Each HasRoom) (sym (c.walk_from.ensures ∙ ap (λ (s : Stored). lent_from_place s c.args.n c.in-Some.place) c.store-in-Some.ensures.value))
    (from_ranged c.args.kept.now c.args.n c.in-Some.place c.requires.told c.store.ensures.arena c.store.ensures.lists c.store.ensures.told c.requires.within i)

pub returns-in-Some : goal.returns-in-Some
returns-in-Some c = λ document tells name e.
    let at = subst (λ (s : Stored). StandsAt s c.args.n c.args.id c.in-Some.place) c.store.ensures.value c.in-Some.ensures.there in
    stands_from c.args.kept.now document c.args.n name c.args.id c.store.ensures.arena c.store.ensures.lists c.store.ensures.told c.requires.within tells e c.in-Some.place at _
    (c.walk_from.ensures ∙ ap (λ (s : Stored). lent_from_place s c.args.n c.in-Some.place) c.store-in-Some.ensures.value)
