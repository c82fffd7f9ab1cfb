use Rattle.yd_order.specs.Numbering.{ArePartlyNumbered}
use Rattle.yd_order.proofs.numbering.number_in_turns.Given as goal

abbrev pub invariant-loop-at : goal.invariant-loop-at
invariant-loop-at l = ArePartlyNumbered l.rows l.marks l.by_neighbours.items
