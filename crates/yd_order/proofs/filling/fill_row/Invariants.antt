use Rattle.yd_order.proofs.PairLemmas.{IsFilling}
use Rattle.yd_order.proofs.filling.fill_row.Given as goal

abbrev pub invariant-loop-earlier : goal.invariant-loop-earlier
invariant-loop-earlier l = IsFilling l.rows l.by_neighbours l.cells l.number l.earlier
