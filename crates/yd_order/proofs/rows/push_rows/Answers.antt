use Rattle.std.proofs.Common.{◌+◌, ◌-◌, ◌++◌, Some, sym, ap, ◌∙◌}
use Rattle.yd_ops.specs.Operation.{later_id}
use Rattle.yd_origins.specs.Table.{OriginTable}
use Rattle.yd_order.specs.Rows.{table_of}
use Rattle.yd_order.specs.Stretch.{rows_from}
use Rattle.yd_order.proofs.RowLemmas.{rows_more, pushed_row}
use Rattle.yd_order.proofs.rows.push_rows.Goals as goal

pub loop-count-preserved : goal.loop-count-preserved
loop-count-preserved c =
    let first = c.args.stretch.id in
    let here = later_id first c.loop-count.count in
    let rest : OriginTable = rows_from (later_id first (c.loop-count.count + 1)) (Some here) c.args.stretch.right (c.args.stretch.len - (c.loop-count.count + 1)) in
    ap (λ items. table_of items ++ rest) c.in_ok-push.ensures.items
    ∙ pushed_row c.loop-count.rows.items (record { id = here; left = c.loop-count.left; right = c.args.stretch.right }) rest
    ∙ ap (λ (t : OriginTable). table_of c.loop-count.rows.items ++ t)
    (sym (rows_more first c.loop-count.left c.args.stretch.right c.loop-count.count c.args.stretch.len c.loop-count-test.true))
    ∙ c.loop-count.invariant
