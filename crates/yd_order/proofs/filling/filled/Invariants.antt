use Rattle.yd_order.specs.Filling.{AreFilledBelow}
use Rattle.yd_order.proofs.filling.filled.Given as goal

abbrev pub invariant-loop-number : goal.invariant-loop-number
invariant-loop-number l = AreFilledBelow l.rows l.by_neighbours l.cells.items l.number
