use Rattle.std.proofs.Common.{◌≡◌, map, take}
use Rattle.yd_order.specs.Linking.{linked_row}
use Rattle.yd_order.proofs.linking.linked.Given as goal

abbrev pub invariant-loop-row : goal.invariant-loop-row
invariant-loop-row l = l.links.items ≡ map (linked_row l.rows) (take l.row-index l.rows)
