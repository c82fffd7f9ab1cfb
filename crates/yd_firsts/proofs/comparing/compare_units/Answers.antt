use Rattle.std.proofs.Common.{◌++◌, ◌∙◌, sym, ap, subst}
use Rattle.yd_order.specs.Stretch.{rows_of_stretches, among_rows}
use Rattle.yd_firsts.specs.Firsts.{ComparesFirsts}
use Rattle.yd_firsts.proofs.AloneLemmas.{alone, alone_starts}
use Rattle.yd_firsts.proofs.comparing.compare_units.Goals as goal

pub returns-clause-compared : goal.returns-clause-compared
returns-clause-compared c =
    subst (λ ls. ComparesFirsts (among_rows (rows_of_stretches c.args.stretches.now)) c.in_ok-list.list.ids.items ls c.in_ok-list.list.is_strict c.in_ok-list.list.cells.items)
    (sym (c.in_ok-push_all.ensures ∙ ap (λ xs. xs ++ c.deref.result.now) c.in_ok-lasts.ensures.items ∙ c.deref.ensures.value))
    (alone (among_rows (rows_of_stretches c.args.stretches.now)) c.requires.table c.in_ok-list.list.ids.items c.in_ok-list.list.is_strict c.in_ok-list.list.cells.items
    c.in_ok-list.ensures)

pub returns-clause-starts : goal.returns-clause-starts
returns-clause-starts c = alone_starts c.args.stretches.now c.in_ok-list.list.ids.items c.in_ok-list.list.is_strict c.in_ok-list.list.cells.items c.in_ok-list.ensures
