use Rattle.std.proofs.Common.{refl, sym, ap, ◌∙◌}
use Rattle.yd_aware.proofs.TreeLemmas.{changed-absent, lookup-seat, set_value-changed}
use Rattle.yd_aware.proofs.rows.replace.Goals as goal

pub returns-in-Some : goal.returns-in-Some
returns-in-Some c =
    (c.get_mut.follows.holds c.args.with).0
    ∙ set_value-changed c.args.client (λ seat. c.args.with) c.args.rows.now.entries c.in-Some.seat.now c.args.with
    (sym (lookup-seat c.args.client c.args.rows.now.entries) ∙ sym c.in-Some.ensures.value) refl

pub returns-in_default : goal.returns-in_default
returns-in_default c =
    ap (λ m. m.entries) c.get_mut.follows.holds-at-none
    ∙ sym (changed-absent c.args.client (λ seat. c.args.with) c.args.rows.now.entries
    (sym (lookup-seat c.args.client c.args.rows.now.entries) ∙ sym c.in_default.ensures.value))
