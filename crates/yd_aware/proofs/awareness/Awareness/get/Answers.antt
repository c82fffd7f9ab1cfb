use Rattle.std.proofs.Common.{sym, ap, ◌∙◌}
use Rattle.yd_aware.specs.Rows.{standing_of_seat}
use Rattle.yd_aware.proofs.KeptLemmas.{standing_told}
use Rattle.yd_aware.proofs.SeatLemmas.{standing_in-seat}
use Rattle.yd_aware.proofs.awareness.Awareness.get.Goals as goal

pub returns-in-None-clause-clock : goal.returns-in-None-clause-clock
returns-in-None-clause-clock c = rw (← c.self.view_is)
    (sym (ap (λ s. s.clock) (standing_in-seat c.self.inside.rows.entries c.args.client.0 ∙ ap standing_of_seat (sym c.in-None.ensures))))

pub returns-in-None-clause-state : goal.returns-in-None-clause-state
returns-in-None-clause-state c = rw (← c.self.view_is)
    (sym (ap (λ s. s.state) (standing_in-seat c.self.inside.rows.entries c.args.client.0 ∙ ap standing_of_seat (sym c.in-None.ensures))))

pub returns-in-None-clause-valid : goal.returns-in-None-clause-valid
returns-in-None-clause-valid c = rw (← c.self.view_is) (standing_told c.self.inside.rows.entries c.args.client.0 c.self.invariant.kept.told).1

pub returns-in-Some-clause-clock : goal.returns-in-Some-clause-clock
returns-in-Some-clause-clock c = rw (← c.self.view_is)
    (sym (ap (λ s. s.clock) (standing_in-seat c.self.inside.rows.entries c.args.client.0 ∙ ap standing_of_seat (sym c.in-Some.ensures))))

pub returns-in-Some-clause-state : goal.returns-in-Some-clause-state
returns-in-Some-clause-state c = rw (← c.self.view_is)
    (c.lent.ensures ∙ sym (ap (λ s. s.state) (standing_in-seat c.self.inside.rows.entries c.args.client.0 ∙ ap standing_of_seat (sym c.in-Some.ensures))))

pub returns-in-Some-clause-valid : goal.returns-in-Some-clause-valid
returns-in-Some-clause-valid c = rw (← c.self.view_is) (standing_told c.self.inside.rows.entries c.args.client.0 c.self.invariant.kept.told).1
