use Rattle.std.proofs.Common.{◌≡◌, ◌++◌, ◌-◌}
use Rattle.yd_ops.specs.Operation.{later_id}
use Rattle.yd_order.specs.Rows.{table_of}
use Rattle.yd_order.specs.Stretch.{rows_from, rows_of_stretch}
use Rattle.yd_order.proofs.rows.push_rows.Given as goal

-- the rows so far and those that are left are the old ones and the stretch's
abbrev pub invariant-loop-count : goal.invariant-loop-count
invariant-loop-count l =
    table_of l.rows.items ++ rows_from (later_id l.stretch.id l.count) l.left l.stretch.right (l.stretch.len - l.count) ≡ table_of l.fn.rows.items ++ rows_of_stretch l.stretch
