use Rattle.std.proofs.Common.{ap, arith, refl}
use Rattle.yd_index.specs.Lines.{room_in}
use Rattle.yd_index.proofs.LinesLemmas.{line_missing, seat_insert}
use Rattle.yd_index.proofs.lines.seat_made.Goals as goal

pub returns-in_err-insert-clause-succeeds : goal.returns-in_err-insert-clause-succeeds
returns-in_err-insert-clause-succeeds c =
    let none = line_missing c.args.lines.now.items c.lines_below-at.result c.args.client.0 c.requires (rw c.deref.ensures.value at c.lines_below-at.ensures.bound)
    (rw c.deref.ensures.value at c.lines_below-at.ensures.boundary) (rw c.deref-2.ensures.value at (c.if-is_at.ensures.other refl)) in
    λ pos. absurd (omega (arith, pos, ap room_in none))

pub returns-clause-seat : goal.returns-clause-seat
returns-clause-seat c =
    rw c.in_ok-insert.ensures.items (seat_insert c.args.lines.now.items c.lines_below-at.result c.args.client.0 c.new.result c.requires (rw c.deref.ensures.value at c.lines_below-at.ensures.bound)
    (rw c.deref.ensures.value at c.lines_below-at.ensures.boundary) (rw c.deref-2.ensures.value at (c.if-is_at.ensures.other refl)) c.new.ensures.client c.new.ensures.entries c.new.ensures.next)

pub returns-clause-lines : goal.returns-clause-lines
returns-clause-lines c = (returns-clause-seat c).lines

pub returns-clause-kept : goal.returns-clause-kept
returns-clause-kept c = (returns-clause-seat c).kept
