use Rattle.std.proofs.Common.{◌≡◌, ◌++◌, sym, ap, ◌∙◌, subst}
use Rattle.std.specs.Prelude.{OnOk}
use Rattle.yd_sync.specs.Table.{standing_in, where_so}
use Rattle.yd_aware.specs.declared.verdict.Verdict.TheVariants.{Left, Raises, Taken}
use Rattle.yd_aware.specs.Rows.{standing_of_seat}
use Rattle.yd_aware.specs.Verdict.{after_verdict, takes, verdict_of}
use Rattle.yd_aware.proofs.SeatLemmas.{after_entry-verdict, is_taken-verdict, standing_in-seat}
use Rattle.yd_aware.proofs.TakingLemmas.{and_nothing, on_ok}
use Rattle.yd_aware.proofs.taking.take_entry.Goals as goal

pub returns-in-Left-clause-after : goal.returns-in-Left-clause-after
returns-in-Left-clause-after c =
    let is : verdict_of c.args.own (standing_in c.args.rows.now.entries c.args.entry.now.client.0) c.args.entry.now ≡ Left =
    ap (λ s. verdict_of c.args.own s c.args.entry.now) (standing_in-seat c.args.rows.now.entries c.args.entry.now.client.0 ∙ ap standing_of_seat (sym c.seat_of.ensures))
    ∙ sym c.verdict_of.ensures ∙ c.in-Left.is in
    sym (after_entry-verdict c.args.own c.args.arrival.moment c.args.arrival.source c.args.entry.now c.args.rows.now.entries
    ∙ ap (λ v. after_verdict v c.args.arrival.moment c.args.arrival.source c.args.entry.now c.args.rows.now.entries) is)

pub returns-in-Left-clause-taken : goal.returns-in-Left-clause-taken
returns-in-Left-clause-taken c =
    let is : verdict_of c.args.own (standing_in c.args.rows.now.entries c.args.entry.now.client.0) c.args.entry.now ≡ Left =
    ap (λ s. verdict_of c.args.own s c.args.entry.now) (standing_in-seat c.args.rows.now.entries c.args.entry.now.client.0 ∙ ap standing_of_seat (sym c.seat_of.ensures))
    ∙ sym c.verdict_of.ensures ∙ c.in-Left.is in
    sym (ap (λ t. c.args.taken.now ++ where_so t c.args.entry.now) (is_taken-verdict c.args.own c.args.entry.now c.args.rows.now.entries ∙ ap takes is)
    ∙ and_nothing c.args.taken.now)

pub returns-in-Raises-clause-after : goal.returns-in-Raises-clause-after
returns-in-Raises-clause-after c =
    let is : verdict_of c.args.own (standing_in c.args.rows.now.entries c.args.entry.now.client.0) c.args.entry.now ≡ Raises c.in-Raises.clock =
    ap (λ s. verdict_of c.args.own s c.args.entry.now) (standing_in-seat c.args.rows.now.entries c.args.entry.now.client.0 ∙ ap standing_of_seat (sym c.seat_of.ensures))
    ∙ sym c.verdict_of.ensures ∙ c.in-Raises.is in
    subst (λ t. OnOk c.raise_own.result (c.raise_own.new.rows.entries ≡ t))
    (sym (after_entry-verdict c.args.own c.args.arrival.moment c.args.arrival.source c.args.entry.now c.args.rows.now.entries
    ∙ ap (λ v. after_verdict v c.args.arrival.moment c.args.arrival.source c.args.entry.now c.args.rows.now.entries) is))
    c.raise_own.ensures.raised

pub returns-in-Raises-clause-taken : goal.returns-in-Raises-clause-taken
returns-in-Raises-clause-taken c =
    let is : verdict_of c.args.own (standing_in c.args.rows.now.entries c.args.entry.now.client.0) c.args.entry.now ≡ Raises c.in-Raises.clock =
    ap (λ s. verdict_of c.args.own s c.args.entry.now) (standing_in-seat c.args.rows.now.entries c.args.entry.now.client.0 ∙ ap standing_of_seat (sym c.seat_of.ensures))
    ∙ sym c.verdict_of.ensures ∙ c.in-Raises.is in
    on_ok _ c.raise_own.result
    (sym (ap (λ t. c.args.taken.now ++ where_so t c.args.entry.now) (is_taken-verdict c.args.own c.args.entry.now c.args.rows.now.entries ∙ ap takes is)
    ∙ and_nothing c.args.taken.now))

pub returns-in-Taken-clause-after : goal.returns-in-Taken-clause-after
returns-in-Taken-clause-after c =
    let is : verdict_of c.args.own (standing_in c.args.rows.now.entries c.args.entry.now.client.0) c.args.entry.now ≡ Taken =
    ap (λ s. verdict_of c.args.own s c.args.entry.now) (standing_in-seat c.args.rows.now.entries c.args.entry.now.client.0 ∙ ap standing_of_seat (sym c.seat_of.ensures))
    ∙ sym c.verdict_of.ensures ∙ c.in-Taken.is in
    subst (λ t. OnOk c.seat_entry.result (c.seat_entry.new.rows.entries ≡ t))
    (sym (after_entry-verdict c.args.own c.args.arrival.moment c.args.arrival.source c.args.entry.now c.args.rows.now.entries
    ∙ ap (λ v. after_verdict v c.args.arrival.moment c.args.arrival.source c.args.entry.now c.args.rows.now.entries) is))
    c.seat_entry.ensures.seated

pub returns-in-Taken-clause-taken : goal.returns-in-Taken-clause-taken
returns-in-Taken-clause-taken c =
    let is : verdict_of c.args.own (standing_in c.args.rows.now.entries c.args.entry.now.client.0) c.args.entry.now ≡ Taken =
    ap (λ s. verdict_of c.args.own s c.args.entry.now) (standing_in-seat c.args.rows.now.entries c.args.entry.now.client.0 ∙ ap standing_of_seat (sym c.seat_of.ensures))
    ∙ sym c.verdict_of.ensures ∙ c.in-Taken.is in
    subst (λ t. OnOk c.seat_entry.result (c.seat_entry.new.taken ≡ c.args.taken.now ++ where_so t c.args.entry.now))
    (sym (is_taken-verdict c.args.own c.args.entry.now c.args.rows.now.entries ∙ ap takes is))
    c.seat_entry.ensures.taken
