use Rattle.std.proofs.Common.{subst, sym}
use Rattle.yd_honesty.specs.Judging.{AreHeld, IsList}
use Rattle.yd_honesty.proofs.SmallestListLemmas.{is_list, are_held, best_of}
use Rattle.yd_honesty.proofs.smallest.judge_list.Goals as goal

pub ends_of-requires-clause-held : goal.ends_of-requires-clause-held
ends_of-requires-clause-held c = subst (λ ids. AreHeld c.args.received.now ids) (sym c.deref-3.ensures.value)
    (are_held c.args.received.now c.requires.kept c.requires.list.0 c.args.stretches.now c.requires.list.1 c.in_ok-firsts.firsts.list.ids.items
    c.in_ok-firsts.firsts.lasts.items c.in_ok-firsts.firsts.list.is_strict c.in_ok-firsts.firsts.list.cells.items c.in_ok-firsts.ensures.compared
    c.in_ok-firsts.ensures.starts)

pub judge_units-found-requires-clause-list : goal.judge_units-found-requires-clause-list
judge_units-found-requires-clause-list c = subst (λ lasts. IsList c.args.received.now c.in_ok-firsts.firsts.list.ids.items lasts c.in_ok-firsts.firsts.list.is_strict
    c.in_ok-firsts.firsts.list.cells.items) (sym c.deref-4.ensures.value)
    (is_list c.args.received.now c.requires.kept c.requires.list.0 c.args.stretches.now c.requires.list.1 c.in_ok-firsts.firsts.list.ids.items
    c.in_ok-firsts.firsts.lasts.items c.in_ok-firsts.firsts.list.is_strict c.in_ok-firsts.firsts.list.cells.items c.in_ok-firsts.ensures.compared
    c.in_ok-firsts.ensures.starts)

pub judge_units-found-requires-clause-held : goal.judge_units-found-requires-clause-held
judge_units-found-requires-clause-held c = are_held c.args.received.now c.requires.kept c.requires.list.0 c.args.stretches.now c.requires.list.1
    c.in_ok-firsts.firsts.list.ids.items c.in_ok-firsts.firsts.lasts.items c.in_ok-firsts.firsts.list.is_strict c.in_ok-firsts.firsts.list.cells.items
    c.in_ok-firsts.ensures.compared c.in_ok-firsts.ensures.starts

pub returns : goal.returns
returns c name of = best_of c.args.received.now c.requires.kept name c.args.stretches.now of c.in_ok-firsts.firsts.list.ids.items c.in_ok-firsts.firsts.lasts.items
    c.in_ok-firsts.firsts.list.is_strict c.in_ok-firsts.firsts.list.cells.items c.in_ok-firsts.ensures.compared c.in_ok-firsts.ensures.starts c.args.before
    c.judge_units-found.result c.judge_units-found.ensures
