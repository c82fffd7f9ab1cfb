use Rattle.std.proofs.Common.{List, ◌++◌, ap, sym, ◌∙◌}
use Rattle.yd_ops.specs.View.{update_value}
use Rattle.yd_sync.specs.Message.{change}
use Rattle.yd_hub.specs.Actions.{ActionValue, to_each}
use Rattle.yd_machines.specs.HubStep.{hub_state, replica_of_hub}
use Rattle.yd_machines.proofs.HubLemmas.{news_orders, no_news_orders}
use Rattle.yd_machines.proofs.hub.Hub.pass_on.Goals as goal

pub returns-then-not-brings-clause-orders : goal.returns-then-not-brings-clause-orders
returns-then-not-brings-clause-orders c = λ vector.
    no_news_orders (replica_of_hub c.args.self.now) (hub_state c.args.self.now) c.args.session.0 (update_value c.args.update) c.in_ok-brings.brings
    c.in_ok-brings.ensures.brings c.if-not-brings.true vector ∙ sym (c.reserve.ensures.unchanged ∙ c.none-actions.ensures.empty)

pub returns-clause-orders : goal.returns-clause-orders
returns-clause-orders c = λ vector.
    news_orders (replica_of_hub c.args.self.now) (hub_state c.args.self.now) c.args.session.0 (update_value c.args.update) c.in_ok-brings.brings
    c.in_ok-brings.ensures.brings c.if-not-brings.false vector
    ∙ sym (c.push_reserved.ensures.pushed
    ∙ ap (λ (l : List ActionValue). l ++ to_each (change (update_value c.args.update)) c.in_ok-others.others) (c.reserve.ensures.unchanged ∙ c.none-actions.ensures.empty)
    ∙ ap (λ to. to_each (change (update_value c.args.update)) to) c.in_ok-others.ensures)
