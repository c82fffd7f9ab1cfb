use Rattle.std.proofs.Common.{subst, sym, ap, ◌∙◌}
use Rattle.yd_origins.specs.Table.{IsTable}
use Rattle.yd_order.specs.Comparing.{Compares}
use Rattle.yd_order.specs.Linking.{table_of_linked, AreLinked}
use Rattle.yd_order.proofs.LinkingLemmas.{linked_table, are_linked}
use Rattle.yd_order.proofs.comparing.compare_rows.Goals as goal

pub compare_linked-requires-clause-links : goal.compare_linked-requires-clause-links
compare_linked-requires-clause-links c = subst AreLinked (sym (c.deref.ensures.value ∙ c.in_ok-rows.ensures)) (are_linked c.args.rows.now)

pub compare_linked-requires-clause-table : goal.compare_linked-requires-clause-table
compare_linked-requires-clause-table c =
    subst IsTable (sym (ap table_of_linked (c.deref.ensures.value ∙ c.in_ok-rows.ensures) ∙ linked_table c.args.rows.now c.requires.table)) c.requires.table

pub returns : goal.returns
returns c = subst (λ table. Compares table c.in_ok-made.made.ids.items c.in_ok-made.made.is_strict c.in_ok-made.made.cells.items)
    (ap table_of_linked (c.deref.ensures.value ∙ c.in_ok-rows.ensures) ∙ linked_table c.args.rows.now c.requires.table) c.in_ok-made.ensures
