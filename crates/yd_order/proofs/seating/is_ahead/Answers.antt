use Rattle.std.proofs.Common.{sym, ◌∙◌}
use Rattle.yd_order.proofs.SeatingLemmas.{ahead_is, first_decides, tie_decides, none_decides}
use Rattle.yd_order.proofs.seating.is_ahead.Goals as goal

pub returns-then-other_seat-seat : goal.returns-then-other_seat-seat
returns-then-other_seat-seat c =
    first_decides _ _ _ c.if-other_seat-seat.true
    ∙ sym (ahead_is c.args.rows.now c.args.seats.now c.args.a c.args.b _ c.requires.inside.0 c.requires.inside.1 _ _ c.seat_of-seat.ensures c.seat_of-other_seat.ensures)

pub returns-then-seat-other_seat : goal.returns-then-seat-other_seat
returns-then-seat-other_seat c =
    c.is_smaller.ensures
    ∙ tie_decides _ _ _ c.if-other_seat-seat.false c.if-seat-other_seat.true
    ∙ sym (ahead_is c.args.rows.now c.args.seats.now c.args.a c.args.b _ c.requires.inside.0 c.requires.inside.1 _ _ c.seat_of-seat.ensures c.seat_of-other_seat.ensures)

pub returns-else-seat-other_seat : goal.returns-else-seat-other_seat
returns-else-seat-other_seat c =
    none_decides _ _ _ c.if-other_seat-seat.false c.if-seat-other_seat.false
    ∙ sym (ahead_is c.args.rows.now c.args.seats.now c.args.a c.args.b _ c.requires.inside.0 c.requires.inside.1 _ _ c.seat_of-seat.ensures c.seat_of-other_seat.ensures)
