use Rattle.std.proofs.Common.{arith}
use Rattle.yd_index.proofs.LinesLemmas.{room_seen, put_lines, put_room, put_keeps}
use Rattle.yd_index.proofs.index.Index.reserve.Goals as goal

pub invariant_of-self-in_err-reserve : goal.invariant_of-self-in_err-reserve
invariant_of-self-in_err-reserve c = put_lines c.in_ok-i.ensures.seat c.index_mut.ensures.value c.reserve.new.self c.in_err-reserve.ensures.same.client

pub returns-in_err-reserve-clause-kept : goal.returns-in_err-reserve-clause-kept
returns-in_err-reserve-clause-kept c = rw (← c.self.view_is) (put_keeps c.in_ok-i.ensures.seat c.index_mut.ensures.value c.reserve.new.self c.in_err-reserve.ensures.same.client c.in_err-reserve.ensures.same.entries c.in_err-reserve.ensures.same.next c.in_err-reserve.ensures.kept)

pub invariant_of-self-2 : goal.invariant_of-self-2
invariant_of-self-2 c = put_lines c.in_ok-i.ensures.seat c.index_mut.ensures.value c.reserve.new.self c.in_ok-reserve.ensures.same.client

pub returns-clause-kept : goal.returns-clause-kept
returns-clause-kept c = rw (← c.self.view_is) (put_keeps c.in_ok-i.ensures.seat c.index_mut.ensures.value c.reserve.new.self c.in_ok-reserve.ensures.same.client c.in_ok-reserve.ensures.same.entries c.in_ok-reserve.ensures.same.next c.in_ok-reserve.ensures.kept)

pub returns-clause-room : goal.returns-clause-room
returns-clause-room c = omega (arith, put_room c.in_ok-i.ensures.seat c.index_mut.ensures.value c.reserve.new.self c.in_ok-reserve.ensures.same.client, c.in_ok-reserve.ensures.room)

pub returns-in_err-reserve-clause-succeeds : goal.returns-in_err-reserve-clause-succeeds
returns-in_err-reserve-clause-succeeds c = rw (← c.self.view_is) (λ some fits. let no = c.in_err-reserve.ensures.succeeds (omega (arith, fits, room_seen c.in_ok-i.ensures.seat c.index_mut.ensures.value)) in absurd cc)
