use Rattle.std.proofs.Common.{◌≡◌, ap, subst}
use Rattle.std.specs.Prelude.{IfSome, is_some}
use Rattle.yd_origins.specs.Sorted.{origin_order}
use Rattle.yd_order.specs.Linking.{table_of_linked}
use Rattle.yd_order.proofs.ComparingLemmas.{compares_strict, compares_pairs}
use Rattle.yd_order.proofs.comparing.compare_linked.Goals as goal

pub returns-in-Some : goal.returns-in-Some
returns-in-Some c = compares_strict c.args.rows.now c.requires.table c.requires.links c.deref-2.result.now (c.in_ok-ids.ensures.told.0 (ap (λ z. is_some z) c.in-Some.is))
    c.in-Some.ids.items (subst (λ z. IfSome z (λ ids. ids.items ≡ origin_order (table_of_linked c.args.rows.now))) c.in-Some.is c.in_ok-ids.ensures.order) c.new.result.items

pub returns : goal.returns
returns c = compares_pairs c.args.rows.now c.in_ok-ids-2.ids.items c.in_ok-cells.cells.items c.in_ok-ids-2.ensures c.in_ok-cells.ensures.size c.in_ok-cells.ensures.filled
