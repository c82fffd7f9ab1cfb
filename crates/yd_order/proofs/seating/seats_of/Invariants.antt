use Rattle.yd_order.specs.Seating.{AreSeatsOf}
use Rattle.yd_order.proofs.seating.seats_of.Given as goal

abbrev pub invariant-loop-position : goal.invariant-loop-position
invariant-loop-position l = AreSeatsOf l.proposal l.seats.items l.position
