use Rattle.std.proofs.Common.{◌∙◌, sym, arith}
use Rattle.yd_arena.specs.Arena.{places_in}
use Rattle.yd_chains.proofs.LinkLemmas.{last_has}
use Rattle.yd_listing.proofs.WalkLemmas.{place_told, last_lent, none_lent}
use Rattle.yd_listing.proofs.ends.last_run.Goals as goal

pub lent_run-requires-clause-place : goal.lent_run-requires-clause-place
lent_run-requires-clause-place c =
    let i = last_has (places_in c.args.store.now.placed c.args.list) c.in-Some.place (sym c.last.ensures ∙ c.in-Some.is) in
    c.is_sound.ensures.lists.within c.args.list c.in-Some.place c.requires.list i

pub lent_run-requires-clause-told : goal.lent_run-requires-clause-told
lent_run-requires-clause-told c =
    let i = last_has (places_in c.args.store.now.placed c.args.list) c.in-Some.place (sym c.last.ensures ∙ c.in-Some.is) in
    place_told c.args.store.now c.args.list c.in-Some.place c.is_sound.ensures.lists c.requires.list i c.requires.told

pub returns-in_default-clause-none : goal.returns-in_default-clause-none
returns-in_default-clause-none c = none_lent c.args.store.now c.args.list (sym c.last.ensures ∙ c.in_default.is)

pub returns-clause-last : goal.returns-clause-last
returns-clause-last c = last_lent c.args.store.now c.args.list c.in-Some.place _ (sym c.last.ensures ∙ c.in-Some.is) c.lent_run.ensures.units

pub returns-clause-some : goal.returns-clause-some
returns-clause-some c =
    let i = last_has (places_in c.args.store.now.placed c.args.list) c.in-Some.place (sym c.last.ensures ∙ c.in-Some.is) in
    omega (arith, c.lent_run.ensures.len, c.is_sound.ensures.lists.filled c.args.list c.in-Some.place c.requires.list i)
