use Rattle.std.proofs.Common.{sym, ap, ◌∙◌}
use Rattle.yd_aware.specs.Rows.{seat_in}
use Rattle.yd_aware.proofs.OwnTableLemmas.{renewed_own}
use Rattle.yd_aware.proofs.SeatLemmas.{seat_fits, standing_in-seat}
use Rattle.yd_aware.proofs.own.renew_own.Goals as goal

pub renew_seat-requires : goal.renew_seat-requires
renew_seat-requires c =
    seat_fits c.clock_of-clock.result (seat_in c.args.rows.now.entries c.args.own.0) c.if-clock-ge-MOST_CLOCK.false
    (c.clock_of-clock.ensures ∙ ap (λ s. s.clock) (standing_in-seat c.args.rows.now.entries c.args.own.0))

pub returns-clause-renewed : goal.returns-clause-renewed
returns-clause-renewed c =
    c.renew_seat.ensures ∙ renewed_own c.args.own c.args.now c.args.rows.now.entries c.requires (sym c.has_state-is_stated.ensures ∙ c.if-not-is_stated.false)
