use Rattle.std.proofs.Common.{true, sym, subst}
use Rattle.std.specs.Prelude.{IfSome}
use Rattle.yd_words.specs.Each.{Each}
use Rattle.yd_origins.specs.Table.{IsTable}
use Rattle.yd_order.specs.Comparing.{Compares}
use Rattle.yd_order.specs.Stretch.{EndsAtClock, rows_of_stretches, among_rows}
use Rattle.yd_firsts.specs.Firsts.{ComparesFirsts}
use Rattle.yd_firsts.specs.Pieces.{AreLasts, StandFor}
use Rattle.yd_firsts.proofs.FirstLemmas.{first_facts, first_starts}
use Rattle.yd_firsts.proofs.FoundLemmas.{stand_clocks}
use Rattle.yd_firsts.proofs.SmallLemmas.{small_table}
use Rattle.yd_firsts.proofs.comparing.compare_pieces.Goals as goal

pub compare_stretches-requires-clause-clocks : goal.compare_stretches-requires-clause-clocks
compare_stretches-requires-clause-clocks c =
    let stand : StandFor c.args.pieces.now c.args.pieces.now c.in-Some.ones.items =
    subst (λ z. IfSome z (λ ones. StandFor c.args.pieces.now c.args.pieces.now ones.items)) c.in-Some.is c.in_ok-ones.ensures in
    subst (Each EndsAtClock) (sym c.deref.ensures.value) (stand_clocks c.args.pieces.now c.args.pieces.now c.in-Some.ones.items stand c.requires.clocks c.requires.units)

pub compare_stretches-requires-clause-table : goal.compare_stretches-requires-clause-table
compare_stretches-requires-clause-table c =
    let stand : StandFor c.args.pieces.now c.args.pieces.now c.in-Some.ones.items =
    subst (λ z. IfSome z (λ ones. StandFor c.args.pieces.now c.args.pieces.now ones.items)) c.in-Some.is c.in_ok-ones.ensures in
    subst (λ ds. IsTable (among_rows (rows_of_stretches ds))) (sym c.deref.ensures.value)
    (small_table c.args.pieces.now c.in-Some.ones.items c.requires.units c.requires.table stand)

pub returns-clause-compared : goal.returns-clause-compared
returns-clause-compared c =
    let stand : StandFor c.args.pieces.now c.args.pieces.now c.in-Some.ones.items =
    subst (λ z. IfSome z (λ ones. StandFor c.args.pieces.now c.args.pieces.now ones.items)) c.in-Some.is c.in_ok-ones.ensures in
    let compares : Compares (among_rows (rows_of_stretches c.in-Some.ones.items)) c.in_ok-list.list.ids.items true c.in_ok-list.list.cells.items =
    subst (λ b. Compares (among_rows (rows_of_stretches c.in-Some.ones.items)) c.in_ok-list.list.ids.items b c.in_ok-list.list.cells.items) c.if-not-list.false
    (subst (λ ds. Compares (among_rows (rows_of_stretches ds)) c.in_ok-list.list.ids.items c.in_ok-list.list.is_strict c.in_ok-list.list.cells.items) c.deref.ensures.value
    c.in_ok-list.ensures) in
    let are : AreLasts c.args.pieces.now c.in_ok-list.list.ids.items c.in-Some-2.lasts.items =
    subst (λ xs. AreLasts c.args.pieces.now xs c.in-Some-2.lasts.items) c.deref-2.ensures.value
    (subst (λ z. IfSome z (λ lasts. AreLasts c.args.pieces.now c.deref-2.result.now lasts.items)) c.in-Some-2.is c.in_ok-lasts.ensures) in
    subst (λ b. ComparesFirsts (among_rows (rows_of_stretches c.args.pieces.now)) c.in_ok-list.list.ids.items c.in-Some-2.lasts.items b c.in_ok-list.list.cells.items)
    (sym c.if-not-list.false)
    (first_facts c.args.pieces.now c.in-Some.ones.items c.requires.units c.requires.table stand c.in_ok-list.list.ids.items c.in_ok-list.list.cells.items compares
    c.in-Some-2.lasts.items are)

pub returns-clause-starts : goal.returns-clause-starts
returns-clause-starts c =
    let stand : StandFor c.args.pieces.now c.args.pieces.now c.in-Some.ones.items =
    subst (λ z. IfSome z (λ ones. StandFor c.args.pieces.now c.args.pieces.now ones.items)) c.in-Some.is c.in_ok-ones.ensures in
    let compares : Compares (among_rows (rows_of_stretches c.in-Some.ones.items)) c.in_ok-list.list.ids.items true c.in_ok-list.list.cells.items =
    subst (λ b. Compares (among_rows (rows_of_stretches c.in-Some.ones.items)) c.in_ok-list.list.ids.items b c.in_ok-list.list.cells.items) c.if-not-list.false
    (subst (λ ds. Compares (among_rows (rows_of_stretches ds)) c.in_ok-list.list.ids.items c.in_ok-list.list.is_strict c.in_ok-list.list.cells.items) c.deref.ensures.value
    c.in_ok-list.ensures) in
    let are : AreLasts c.args.pieces.now c.in_ok-list.list.ids.items c.in-Some-2.lasts.items =
    subst (λ xs. AreLasts c.args.pieces.now xs c.in-Some-2.lasts.items) c.deref-2.ensures.value
    (subst (λ z. IfSome z (λ lasts. AreLasts c.args.pieces.now c.deref-2.result.now lasts.items)) c.in-Some-2.is c.in_ok-lasts.ensures) in
    first_starts c.args.pieces.now c.in-Some.ones.items c.requires.units c.requires.table stand c.in_ok-list.list.ids.items c.in_ok-list.list.cells.items compares
    c.in-Some-2.lasts.items are
