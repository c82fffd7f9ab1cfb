use Rattle.std.proofs.Common.{◌≡◌, map, take}
use Rattle.yd_order.specs.declared.linking.LinkedRow.{LinkedRow}
use Rattle.yd_order.proofs.comparing.ids_of_rows.Given as goal

abbrev pub invariant-loop-row : goal.invariant-loop-row
invariant-loop-row l = l.ids.items ≡ map (λ (row : LinkedRow). row.id) (take l.row-index l.rows)
