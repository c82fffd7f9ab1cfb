use Rattle.std.proofs.Common.{not, refl, sym, ap, ◌∙◌}
use Rattle.yd_aware.specs.Rows.{clock_where_stated, emptied_seat, standing_of_seat}
use Rattle.yd_aware.proofs.EndingLemmas.{clock_none, clock_some, emptied-none}
use Rattle.yd_aware.proofs.TreeLemmas.{changed-absent, lookup-seat, set_value-changed}
use Rattle.yd_aware.proofs.rows.end_state.Goals as goal

pub returns-in_err-seat-clause-ended : goal.returns-in_err-seat-clause-ended
returns-in_err-seat-clause-ended c =
    ap (λ m. m.entries) c.get_mut.follows.holds-at-none
    ∙ sym (changed-absent c.args.client emptied_seat c.args.rows.now.entries
    (sym (lookup-seat c.args.client c.args.rows.now.entries) ∙ sym c.in_err-seat.ensures.value))

pub returns-in_err-seat-clause-clock : goal.returns-in_err-seat-clause-clock
returns-in_err-seat-clause-clock c =
    c.from_residual.ensures
    ∙ ap (λ s. clock_where_stated (standing_of_seat s)) (c.in_err-seat.ensures.value ∙ lookup-seat c.args.client c.args.rows.now.entries)

pub returns-then-is_none-clause-ended : goal.returns-then-is_none-clause-ended
returns-then-is_none-clause-ended c =
    (c.get_mut.follows.holds c.in_ok-seat.seat.now).0
    ∙ set_value-changed c.args.client emptied_seat c.args.rows.now.entries c.in_ok-seat.seat.now c.in_ok-seat.seat.now
    (sym (lookup-seat c.args.client c.args.rows.now.entries) ∙ sym c.in_ok-seat.ensures.value)
    (emptied-none c.in_ok-seat.seat.now (c.is_none.ensures ∙ ap not c.if-is_none.true))

pub returns-then-is_none-clause-clock : goal.returns-then-is_none-clause-clock
returns-then-is_none-clause-clock c =
    sym (clock_none c.in_ok-seat.seat.now (c.is_none.ensures ∙ ap not c.if-is_none.true))
    ∙ ap (λ s. clock_where_stated (standing_of_seat s)) (c.in_ok-seat.ensures.value ∙ lookup-seat c.args.client c.args.rows.now.entries)

pub returns-clause-ended : goal.returns-clause-ended
returns-clause-ended c =
    (c.get_mut.follows.holds (emptied_seat c.in_ok-seat.seat.now)).0
    ∙ set_value-changed c.args.client emptied_seat c.args.rows.now.entries c.in_ok-seat.seat.now (emptied_seat c.in_ok-seat.seat.now)
    (sym (lookup-seat c.args.client c.args.rows.now.entries) ∙ sym c.in_ok-seat.ensures.value) refl

pub returns-clause-clock : goal.returns-clause-clock
returns-clause-clock c =
    sym (clock_some c.in_ok-seat.seat.now (c.is_none.ensures ∙ ap not c.if-is_none.false))
    ∙ ap (λ s. clock_where_stated (standing_of_seat s)) (c.in_ok-seat.ensures.value ∙ lookup-seat c.args.client c.args.rows.now.entries)
