use Rattle.std.proofs.Common.{ap, ◌∙◌}
use Rattle.yd_received.specs.Received.{ReceivedValue}
use Rattle.yd_state.proofs.CameLemmas.{came_next}
use Rattle.yd_state.proofs.coming.came_of.Goals as goal

pub loop-at-preserved : goal.loop-at-preserved
loop-at-preserved c = came_next c.args.held.now c.args.kept.now c.args.order.now c.loop-at.at-index c.loop-at-test.true c.entries-entries.result.now
    (c.entries-entries.ensures.entries ∙ ap (λ (r : ReceivedValue). r.entries) c.received.ensures.received) c.requires c.loop-at.came.items c.loop-at.invariant
    c.came_at.result c.get.result c.get.ensures c.came_at.ensures c.push.new.self.items c.in_ok-push.ensures.items
