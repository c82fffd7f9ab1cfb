use Rattle.std.proofs.Common.{ap, sym, ◌∙◌}
use Rattle.yd_aware.specs.Rows.{standing_of_seat}
use Rattle.yd_aware.proofs.SeatLemmas.{standing_in-seat}
use Rattle.yd_aware.proofs.own.clock_of.Goals as goal

pub returns-in-None : goal.returns-in-None
returns-in-None c = sym (ap (λ s. s.clock) (standing_in-seat c.args.rows.now.entries c.args.client.0 ∙ ap standing_of_seat (sym c.in-None.ensures)))

pub returns-in-Some : goal.returns-in-Some
returns-in-Some c = sym (ap (λ s. s.clock) (standing_in-seat c.args.rows.now.entries c.args.client.0 ∙ ap standing_of_seat (sym c.in-Some.ensures)))
