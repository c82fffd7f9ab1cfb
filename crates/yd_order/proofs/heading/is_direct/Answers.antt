use Rattle.std.proofs.Common.{ℕ, ap, ◌∙◌, nat_eq}
use Rattle.yd_order.specs.Seating.{seat_of}
use Rattle.yd_order.proofs.LinkedLemmas.{left_read}
use Rattle.yd_order.proofs.SeatedLemmas.{seated_below}
use Rattle.yd_order.proofs.heading.is_direct.Goals as goal

pub returns : goal.returns
returns c =
    ap (λ (n : ℕ). nat_eq n c.args.position) (c.seat_of.ensures ∙ ap (seat_of c.args.seats.now)
    (left_read c.args.rows.now _ _ (seated_below _ c.args.proposal.now c.args.seats.now c.requires.seated c.args.position c.requires.inside)))
