use Rattle.std.proofs.Common.{subst, sym, ap, ◌∙◌}
use Rattle.yd_origins.specs.Sorted.{origin_order}
use Rattle.yd_origins.specs.Table.{IsTable}
use Rattle.yd_order.specs.Linking.{table_of_linked, AreLinked}
use Rattle.yd_order.proofs.LinkingLemmas.{linked_table, are_linked}
use Rattle.yd_order.proofs.arranging.arrange_rows.Goals as goal

pub arrange_linked-requires-clause-links : goal.arrange_linked-requires-clause-links
arrange_linked-requires-clause-links c = subst AreLinked (sym (c.deref.ensures.value ∙ c.in_ok-rows.ensures)) (are_linked c.args.rows.now)

pub arrange_linked-requires-clause-table : goal.arrange_linked-requires-clause-table
arrange_linked-requires-clause-table c =
    subst IsTable (sym (ap table_of_linked (c.deref.ensures.value ∙ c.in_ok-rows.ensures) ∙ linked_table c.args.rows.now c.requires.table)) c.requires.table

pub returns : goal.returns
returns c =
    c.in_ok-order.ensures
    ∙ ap (λ rows. origin_order (table_of_linked rows)) (c.deref.ensures.value ∙ c.in_ok-rows.ensures)
    ∙ ap origin_order (linked_table c.args.rows.now c.requires.table)
