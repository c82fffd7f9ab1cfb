use Rattle.std.proofs.Common.{ap}
use Rattle.yd_ops.specs.View.{update_value}
use Rattle.yd_sync.specs.Message.{message_value}
use Rattle.yd_machines.specs.HubStep.{hub_state, replica_of_hub}
use Rattle.yd_machines.proofs.HubLemmas.{takes_change, takes_step2}
use Rattle.yd_machines.proofs.hub.Hub.take.Goals as goal

pub returns-in-Step2-clause-taken : goal.returns-in-Step2-clause-taken
returns-in-Step2-clause-taken c = takes_step2 (replica_of_hub c.args.self.now) (hub_state c.args.self.now) (hub_state c.pass_on.new.self) c.args.now c.args.session.0
    (update_value c.in-Step2.update) (message_value c.args.message) c.pass_on.result (ap message_value c.in-Step2.is) c.pass_on.ensures.after c.pass_on.ensures.orders

pub returns-in-Change-clause-taken : goal.returns-in-Change-clause-taken
returns-in-Change-clause-taken c = takes_change (replica_of_hub c.args.self.now) (hub_state c.args.self.now) (hub_state c.pass_on-in-Change.new.self) c.args.now c.args.session.0
    (update_value c.in-Change.update) (message_value c.args.message) c.pass_on-in-Change.result (ap message_value c.in-Change.is)
    c.pass_on-in-Change.ensures.after c.pass_on-in-Change.ensures.orders
