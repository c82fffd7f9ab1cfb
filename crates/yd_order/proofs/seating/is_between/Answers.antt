use Rattle.yd_order.proofs.SeatingLemmas.{between_is, between_none}
use Rattle.yd_order.proofs.seating.is_between.Goals as goal

pub returns-then-seat_of-seats : goal.returns-then-seat_of-seats
returns-then-seat_of-seats c = between_is c.args.rows.now c.args.seats.now c.args.at _ c.requires.inside _ c.seat_of.ensures _ c.is_passed.ensures c.if-seat_of-seats.true

pub returns-else-seat_of-seats : goal.returns-else-seat_of-seats
returns-else-seat_of-seats c = between_none c.args.rows.now c.args.seats.now c.args.at _ c.requires.inside _ c.seat_of.ensures c.if-seat_of-seats.false
