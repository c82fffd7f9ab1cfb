use Rattle.yd_hub.proofs.ServingLemmas.{hub_on, events_on, told_on, answered_on}
use Rattle.yd_hub.proofs.law.serving_goes_on.Goals as goal

pub returns : goal.returns
returns c = record { hub = hub_on; events = events_on; told = told_on; answered = answered_on }
