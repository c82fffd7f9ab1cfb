use Rattle.yd_order.specs.Numbering.{ArePartlyNumbered}
use Rattle.yd_order.proofs.NumberingLemmas.{AreMarkedBelow}
use Rattle.yd_order.proofs.numbering.number_all.Given as goal

abbrev pub invariant-loop : goal.invariant-loop
invariant-loop l = ArePartlyNumbered l.rows l.marks l.by_neighbours.items × AreMarkedBelow l.rows l.marks l.counter
