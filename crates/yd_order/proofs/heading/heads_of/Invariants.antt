use Rattle.yd_order.proofs.HeadLemmas.{HaveHeads}
use Rattle.yd_order.proofs.heading.heads_of.Given as goal

abbrev pub invariant-loop-position : goal.invariant-loop-position
invariant-loop-position l = HaveHeads l.rows l.proposal l.seats l.heads.items l.position l.head
