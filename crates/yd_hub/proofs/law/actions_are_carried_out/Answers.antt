use Rattle.yd_hub.proofs.ServingLemmas.{orders_out}
use Rattle.yd_hub.proofs.law.actions_are_carried_out.Goals as goal

pub returns : goal.returns
returns c = orders_out
