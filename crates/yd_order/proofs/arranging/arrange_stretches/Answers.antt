use Rattle.std.proofs.Common.{subst, sym, ap, ◌∙◌}
use Rattle.yd_origins.specs.Sorted.{origin_order}
use Rattle.yd_origins.specs.Table.{IsTable}
use Rattle.yd_order.specs.Rows.{table_of}
use Rattle.yd_order.specs.Stretch.{rows_of_stretches, among_rows}
use Rattle.yd_order.proofs.AmongLemmas.{among_table, among_order}
use Rattle.yd_order.proofs.LinkingLemmas.{distinct_rows}
use Rattle.yd_order.proofs.arranging.arrange_stretches.Goals as goal

pub ascending-requires-clause-distinct : goal.ascending-requires-clause-distinct
ascending-requires-clause-distinct c = distinct_rows (rows_of_stretches c.args.stretches.now) c.requires.table

pub arrange_rows-requires-clause-table : goal.arrange_rows-requires-clause-table
arrange_rows-requires-clause-table c =
    subst (λ rows. IsTable (among_rows (table_of rows))) (sym c.deref.ensures.value)
    (among_table (rows_of_stretches c.args.stretches.now) (table_of c.in_ok-rows.rows.items) c.requires.table c.in_ok-rows.ensures.same)

pub returns : goal.returns
returns c =
    c.in_ok-order.ensures
    ∙ ap (λ rows. origin_order (among_rows (table_of rows))) c.deref.ensures.value
    ∙ among_order (rows_of_stretches c.args.stretches.now) (table_of c.in_ok-rows.rows.items) c.requires.table c.in_ok-rows.ensures.same
