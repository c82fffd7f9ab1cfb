use Rattle.yd_order.specs.Numbering.{NumbersReady}
use Rattle.yd_order.proofs.numbering.number_ready.Given as goal

abbrev pub invariant-loop-at : goal.invariant-loop-at
invariant-loop-at l = NumbersReady l.rows l.fn.marks l.marks l.by_neighbours.items l.at l.all
