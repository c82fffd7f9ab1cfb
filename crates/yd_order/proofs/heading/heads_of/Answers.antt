use Rattle.std.proofs.Common.{sym, ◌∙◌}
use Rattle.yd_order.proofs.HeadLemmas.{head_found, head_stays}
use Rattle.yd_order.proofs.heading.heads_of.Goals as goal
use Rattle.yd_order.proofs.heading.heads_of.Goals.{then-not-is_direct, else-not-is_direct}

pub loop-position-preserved : goal.loop-position-preserved
loop-position-preserved c = elim c.if-not-is_direct.branch [
  | then-not-is_direct w ↦ head_found c.args.rows.now c.args.proposal.now c.args.seats.now c.loop-position.heads.items _ c.loop-position.position c.loop-position.head _ c.loop-position.invariant w.head-is
      (sym c.is_direct.ensures ∙ w.if-not-is_direct.true) c.in_ok-push.ensures.items
  | else-not-is_direct w ↦ head_stays c.args.rows.now c.args.proposal.now c.args.seats.now c.loop-position.heads.items _ c.loop-position.position c.loop-position.head _ c.loop-position.invariant w.head-is
      (sym c.is_direct.ensures ∙ w.if-not-is_direct.false) c.in_ok-push.ensures.items
]
