use Rattle.std.proofs.Common.{◌≡◌, ◌++◌, drop}
use Rattle.yd_order.specs.Rows.{table_of}
use Rattle.yd_order.specs.Stretch.{rows_of_stretches}
use Rattle.yd_order.proofs.rows.expanded.Given as goal

-- the rows so far and those of the stretches that are left are those of all stretches
abbrev pub invariant-loop-stretch : goal.invariant-loop-stretch
invariant-loop-stretch l = table_of l.rows.items ++ rows_of_stretches (drop l.stretch-index l.stretches) ≡ rows_of_stretches l.stretches
