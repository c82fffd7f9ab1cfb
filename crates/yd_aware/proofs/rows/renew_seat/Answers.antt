use Rattle.std.proofs.Common.{◌≡◌, ◌<◌, ◌+◌, ◌^◌, ℕ, suc, sym, ap, ◌∙◌, subst, arith}
use Rattle.std.specs.Prelude.{IfSome}
use Rattle.yd_sync.specs.declared.seat.Seat.{Seat}
use Rattle.yd_aware.specs.Rows.{renewed_seat}
use Rattle.yd_aware.proofs.TreeLemmas.{changed-absent, lookup-seat, set_value-changed}
use Rattle.yd_aware.proofs.rows.renew_seat.Goals as goal

plus_one : (n : ℕ) → n + 1 ≡ suc n
plus_one n = omega arith

pub overflow_add-seat : goal.overflow_add-seat
overflow_add-seat c =
    let fits : c.in-Some.seat.now.clock < 2 ^ 53 =
    subst (λ o. IfSome o (λ (seat : Seat). seat.clock < 2 ^ 53)) (sym (lookup-seat c.args.client c.args.rows.now.entries) ∙ sym c.in-Some.ensures.value) c.requires in
    omega (arith, fits)

pub returns-in-Some : goal.returns-in-Some
returns-in-Some c =
    (c.get_mut.follows.holds (record { clock = c.in-Some.seat.now.clock + 1; state = c.in-Some.seat.now.state; moment = c.args.now; source = 0 })).0
    ∙ set_value-changed c.args.client (renewed_seat c.args.now) c.args.rows.now.entries c.in-Some.seat.now _
    (sym (lookup-seat c.args.client c.args.rows.now.entries) ∙ sym c.in-Some.ensures.value)
    (ap (λ n. record { clock = n; state = c.in-Some.seat.now.state; moment = c.args.now; source = 0 }) (plus_one c.in-Some.seat.now.clock))

pub returns-in_default : goal.returns-in_default
returns-in_default c =
    ap (λ m. m.entries) c.get_mut.follows.holds-at-none
    ∙ sym (changed-absent c.args.client (renewed_seat c.args.now) c.args.rows.now.entries
    (sym (lookup-seat c.args.client c.args.rows.now.entries) ∙ sym c.in_default.ensures.value))
