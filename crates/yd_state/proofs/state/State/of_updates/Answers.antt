use Rattle.std.proofs.Common.{◌∙◌, ap}
use Rattle.yd_ops.specs.View.{update_value}
use Rattle.yd_ops.specs.Received.{Received, received_after}
use Rattle.yd_state.specs.State.{StateValue, received_in}
use Rattle.yd_state.proofs.state.State.of_updates.Goals as goal

pub returns-clause-received : goal.returns-clause-received
returns-clause-received c = c.in_ok-_brings.ensures.received
    ∙ ap (λ (s : StateValue). received_after (received_in s) (update_value c.in_ok-update.update)) c.reserve.ensures
    ∙ ap (λ (r : Received). received_after r (update_value c.in_ok-update.update)) c.new-state.ensures.received
    ∙ c.in_ok-update.ensures.same
