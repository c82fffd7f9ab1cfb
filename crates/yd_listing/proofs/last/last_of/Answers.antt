use Rattle.std.proofs.Common.{◌≡◌, ◌∙◌, ◌<◌, ◌++◌, List, [], Some, sym, ap, subst}
use Rattle.yd_ids.specs.declared.id.Id.{Id}
use Rattle.yd_arena.specs.Arena.{count_of}
use Rattle.yd_store.specs.Store.{Stored}
use Rattle.yd_listing.specs.Lending.{Lent, lent_in, units_of_run, HasNoGone}
use Rattle.yd_listing.proofs.ListingLemmas.{last_named, none_last, no_last, last_ranged}
use Rattle.yd_listing.proofs.last.last_of.Goals as goal

pub returns-in_err-number : goal.returns-in_err-number
returns-in_err-number c = λ document tells. c.from_residual.ensures ∙ no_last c.args.kept.now document c.args.name.now tells c.in_err-number.ensures.none

pub last_run-requires-clause-list : goal.last_run-requires-clause-list
last_run-requires-clause-list c = subst (λ (s : Stored). c.in_ok-number.number < count_of s.placed) (sym c.store.ensures.value) c.in_ok-number.ensures.within

pub last_run-requires-clause-told : goal.last_run-requires-clause-told
last_run-requires-clause-told c = subst (λ (s : Stored). HasNoGone s c.in_ok-number.number) (sym c.store.ensures.value)
    (c.requires.told c.in_ok-number.number c.in_ok-number.ensures.within)

pub returns-in_err-run : goal.returns-in_err-run
returns-in_err-run c = λ document tells. c.from_residual-in_err-run.ensures
    ∙ none_last c.args.kept.now document c.in_ok-number.number c.args.name.now c.store.ensures.arena c.store.ensures.lists c.store.ensures.told
    c.in_ok-number.ensures.within tells c.in_ok-number.ensures.there
    (subst (λ (s : Stored). lent_in s c.in_ok-number.number ≡ []) c.store.ensures.value c.in_err-run.ensures.none)

pub last_id-requires-clause-within : goal.last_id-requires-clause-within
last_id-requires-clause-within c = (last_ranged c.args.kept.now c.in_ok-number.number c.in_ok-run.run' c.requires c.store.ensures.arena c.store.ensures.lists
    c.store.ensures.told c.in_ok-number.ensures.within
    (subst (λ (s : Stored). (front : List Lent) × (lent_in s c.in_ok-number.number ≡ front ++ units_of_run c.in_ok-run.run')) c.store.ensures.value
    c.in_ok-run.ensures.last) c.in_ok-run.ensures.some c.in_ok-run.ensures.len).ids

pub returns : goal.returns
returns c = λ document tells. ap (λ (x : Id). Some x) c.last_id.ensures
    ∙ last_named c.args.kept.now document c.in_ok-number.number c.args.name.now c.store.ensures.arena c.store.ensures.lists c.store.ensures.told
    c.in_ok-number.ensures.within tells c.in_ok-number.ensures.there c.in_ok-run.run'
    (subst (λ (s : Stored). (front : List Lent) × (lent_in s c.in_ok-number.number ≡ front ++ units_of_run c.in_ok-run.run')) c.store.ensures.value
    c.in_ok-run.ensures.last) c.in_ok-run.ensures.some c.in_ok-run.ensures.len
