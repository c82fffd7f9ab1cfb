use Rattle.std.proofs.Common.{subst, sym}
use Rattle.yd_origins.specs.Table.{IsTable}
use Rattle.yd_order.specs.Comparing.{Compares}
use Rattle.yd_order.specs.Rows.{table_of}
use Rattle.yd_order.specs.Stretch.{rows_of_stretches, among_rows}
use Rattle.yd_order.proofs.AmongLemmas.{among_table}
use Rattle.yd_order.proofs.ComparingLemmas.{compares_moved}
use Rattle.yd_order.proofs.LinkingLemmas.{distinct_rows}
use Rattle.yd_order.proofs.comparing.compare_stretches.Goals as goal

pub ascending-requires-clause-distinct : goal.ascending-requires-clause-distinct
ascending-requires-clause-distinct c = distinct_rows (rows_of_stretches c.args.stretches.now) c.requires.table

pub compare_rows-requires-clause-table : goal.compare_rows-requires-clause-table
compare_rows-requires-clause-table c =
    subst (λ rows. IsTable (among_rows (table_of rows))) (sym c.deref.ensures.value)
    (among_table (rows_of_stretches c.args.stretches.now) (table_of c.in_ok-rows.rows.items) c.requires.table c.in_ok-rows.ensures.same)

pub returns : goal.returns
returns c = compares_moved (rows_of_stretches c.args.stretches.now) (table_of c.in_ok-rows.rows.items) c.requires.table c.in_ok-rows.ensures.same
    c.in_ok-made.made.ids.items c.in_ok-made.made.is_strict c.in_ok-made.made.cells.items
    (subst (λ rows. Compares (among_rows (table_of rows)) c.in_ok-made.made.ids.items c.in_ok-made.made.is_strict c.in_ok-made.made.cells.items)
    c.deref.ensures.value c.in_ok-made.ensures)
