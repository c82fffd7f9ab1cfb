use Rattle.std.proofs.Common.{refl, sym, ap, ◌∙◌}
use Rattle.std.specs.Option.{option_map}
use Rattle.yd_sync.specs.declared.seat.Seat.{Seat}
use Rattle.yd_aware.proofs.TreeLemmas.{at_clock, changed-absent, lookup-seat, raised-changed, set_value-changed}
use Rattle.yd_aware.proofs.rows.raise.Goals as goal

pub returns-in_err-seat-clause-raised : goal.returns-in_err-seat-clause-raised
returns-in_err-seat-clause-raised c =
    ap (λ m. m.entries) c.get_mut.follows.holds-at-none
    ∙ sym (raised-changed c.args.client c.args.clock c.args.rows.now.entries
    ∙ changed-absent c.args.client (at_clock c.args.clock) c.args.rows.now.entries
    (sym (lookup-seat c.args.client c.args.rows.now.entries) ∙ sym c.in_err-seat.ensures.value))

pub returns-in_err-seat-clause-was : goal.returns-in_err-seat-clause-was
returns-in_err-seat-clause-was c =
    c.from_residual.ensures
    ∙ ap (option_map (λ (seat : Seat). seat.clock)) (c.in_err-seat.ensures.value ∙ lookup-seat c.args.client c.args.rows.now.entries)

pub returns-clause-raised : goal.returns-clause-raised
returns-clause-raised c =
    (c.get_mut.follows.holds (at_clock c.args.clock c.in_ok-seat.seat.now)).0
    ∙ set_value-changed c.args.client (at_clock c.args.clock) c.args.rows.now.entries c.in_ok-seat.seat.now (at_clock c.args.clock c.in_ok-seat.seat.now)
    (sym (lookup-seat c.args.client c.args.rows.now.entries) ∙ sym c.in_ok-seat.ensures.value) refl
    ∙ sym (raised-changed c.args.client c.args.clock c.args.rows.now.entries)

pub returns-clause-was : goal.returns-clause-was
returns-clause-was c = ap (option_map (λ (seat : Seat). seat.clock)) (c.in_ok-seat.ensures.value ∙ lookup-seat c.args.client c.args.rows.now.entries)
