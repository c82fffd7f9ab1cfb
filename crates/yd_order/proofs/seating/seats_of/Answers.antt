use Rattle.std.proofs.Common.{ℕ, ◌+◌, Vec, Global, subst, sym, arith}
use Rattle.yd_order.specs.Seating.{AreSeatsOf}
use Rattle.yd_order.proofs.SeatingLemmas.{seat_given, seat_refused}
use Rattle.yd_order.proofs.seating.seats_of.Goals as goal
use Rattle.yd_order.proofs.seating.seats_of.Goals.{then-at-len, else-at-len}

pub loop-position-preserved : goal.loop-position-preserved
loop-position-preserved c =
    let Now : Vec ℕ Global → Type 0 = λ seats. AreSeatsOf c.args.proposal.now seats.items (c.loop-position.position + 1) in
    elim c.if-at-len.branch [
      | then-at-len w ↦ subst Now (sym w.seats-is) (seat_given c.args.proposal.now c.loop-position.seats.items c.loop-position.position c.loop-position.invariant c.loop-position-test.true
          (omega (arith, w.if-at-len.true, c.len.ensures)))
      | else-at-len w ↦ subst Now (sym w.seats-is) (seat_refused c.args.proposal.now c.loop-position.seats.items c.loop-position.position c.loop-position.invariant
          (omega (arith, w.if-at-len.false, c.len.ensures)))
    ]

pub returns : goal.returns
returns c = subst (AreSeatsOf c.args.proposal.now c.loop-position.seats.items) (omega (arith, c.loop-position.auto.position-end, c.loop-position-test.false)) c.loop-position.invariant
