use Rattle.std.proofs.Common.{sym, ap, ◌∙◌}
use Rattle.yd_sync.specs.Table.{is_of}
use Rattle.yd_aware.specs.Rows.{clock_where_stated}
use Rattle.yd_aware.proofs.EndingLemmas.{ended_at-dropped}
use Rattle.yd_aware.proofs.KeptLemmas.{emptied_kept}
use Rattle.yd_aware.proofs.SeatLemmas.{standing_in-seat}
use Rattle.yd_aware.proofs.awareness.Awareness.drop_state.Goals as goal

pub invariant_of-self : goal.invariant_of-self
invariant_of-self c = record {
  owner = c.self.invariant.owner;
  kept = rw (c.end_state-clock.ensures.ended ∙ ended_at-dropped c.args.client.0 c.self.inside.rows.entries c.self.invariant.kept.ascend)
      (emptied_kept (is_of c.args.client.0) c.self.inside.rows.entries c.self.invariant.kept);
}

pub returns-clause-ended : goal.returns-clause-ended
returns-clause-ended c = rw (← c.self.view_is)
    (ap (λ rows. record { own = c.self.inside.own; rows = rows })
    (c.end_state-clock.ensures.ended ∙ ended_at-dropped c.args.client.0 c.self.inside.rows.entries c.self.invariant.kept.ascend))

pub returns-clause-clock : goal.returns-clause-clock
returns-clause-clock c = rw (← c.self.view_is)
    (c.end_state-clock.ensures.clock ∙ ap clock_where_stated (sym (standing_in-seat c.self.inside.rows.entries c.args.client.0)))
