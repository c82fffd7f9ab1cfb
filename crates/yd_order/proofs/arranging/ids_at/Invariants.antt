use Rattle.std.proofs.Common.{◌≡◌, map, take}
use Rattle.yd_order.specs.Linking.{id_at}
use Rattle.yd_order.proofs.arranging.ids_at.Given as goal

abbrev pub invariant-loop-at : goal.invariant-loop-at
invariant-loop-at l = l.ids.items ≡ map (id_at l.rows) (take l.at-index l.places)
