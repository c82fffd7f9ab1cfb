use Rattle.std.proofs.Common.{ap, ◌∙◌}
use Rattle.yd_hub.specs.Hub.{hub_after, hub_actions}
use Rattle.yd_hub.specs.Serving.{events_served}
use Rattle.yd_hub.proofs.HubLemmas.{events_bring}
use Rattle.yd_hub.proofs.OrderLemmas.{hub_orders}
use Rattle.yd_hub.proofs.ServingLemmas.{orders_out, served_is}
use Rattle.yd_hub.proofs.law.serving_is_a_run.Goals as goal

pub returns : goal.returns
returns c = record {
  state = served_is;
  received = λ read write reason hub turns. ap (λ h. h.received) (served_is read write reason hub turns) ∙ events_bring read hub (events_served read write reason hub turns);
  turn = λ read write reason hub turn. orders_out write reason (hub_after read hub turn.event) (hub_actions read turn.answers hub turn.event) turn.fails (hub_orders read turn.answers hub turn.event);
}
