use Rattle.std.proofs.Common.{ap, ◌∙◌}
use Rattle.yd_hub.specs.Orders.{orders_of}
use Rattle.yd_hub.proofs.ActionLemmas.{orders_with}
use Rattle.yd_hub.proofs.action.push_action.Goals as goal

pub returns-clause-pushed : goal.returns-clause-pushed
returns-clause-pushed c = ap orders_of c.push_reserved.ensures.items ∙ orders_with c.args.actions.now.items c.args.action
