use Rattle.yd_order.specs.Seating.{Stands}
use Rattle.yd_order.proofs.SeatingLemmas.{one_more}
use Rattle.yd_order.proofs.seating.all_stand.Goals as goal

pub loop-at-preserved : goal.loop-at-preserved
loop-at-preserved c =
    one_more (Stands c.args.rows.now c.args.proposal.now c.args.seats.now) c.loop-at.at c.loop-at.invariant (c.stands.ensures.0 c.if-not-stands.false)
