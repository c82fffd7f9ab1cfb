use Rattle.std.proofs.Common.{◌≡◌, ◌∙◌, true, false, Some, None, inl, inr, sym, arith}
use Rattle.yd_words.proofs.OptionLemmas.{some_is}
use Rattle.yd_index.proofs.LinesLemmas.{eq_says}
use Rattle.yd_store.proofs.StoreLemmas.{names_list, stands_below}
use Rattle.yd_store.proofs.rights.stands_in.Goals as goal

pub returns-in_default-clause-other : goal.returns-in_default-clause-other
returns-in_default-clause-other c = λ no s. absurd (omega (arith, stands_below c.args.arena.now c.args.list c.args.id c.find.ensures.arena s, c.in_default.ensures.missing))

pub returns-in-None-clause-other : goal.returns-in-None-clause-other
returns-in-None-clause-other c = λ no s.
    let e : c.list_of.result ≡ Some c.args.list = names_list c.args.arena.now c.lists.result.now c.args.list c.in-Some.found.place c.in-Some.found.before c.args.id c.list_of.result c.lists.ensures.value c.list_of.ensures.member c.find.ensures.arena c.requires c.in-Some.ensures.found s in
    let not : None ≡ Some c.args.list = sym c.in-None.is ∙ e in
    absurd cc

pub returns-in-Some-list_of-clause-other : goal.returns-in-Some-list_of-clause-other
returns-in-Some-list_of-clause-other c = λ no s.
    let e : c.list_of.result ≡ Some c.args.list = names_list c.args.arena.now c.lists.result.now c.args.list c.in-Some.found.place c.in-Some.found.before c.args.id c.list_of.result c.lists.ensures.value c.list_of.ensures.member c.find.ensures.arena c.requires c.in-Some.ensures.found s in
    let is : c.in-Some-list_of.number ≡ c.args.list = some_is c.in-Some-list_of.number c.args.list (sym c.in-Some-list_of.is ∙ e) in
    elim (eq_says c.in-Some-list_of.number c.args.list) [
      | inl x ↦ (let not : true ≡ false = sym x.0 ∙ no in absurd cc)
      | inr x ↦ absurd (x.1 is)
    ]
