use Rattle.std.proofs.Common.{◌≡◌, ◌<◌, ◌≤◌, ◌-◌, ◌^◌}
use Rattle.yd_generator.specs.Generated.{generation}
use Rattle.yd_generator.specs.Law.{AreAccepted}
use Rattle.yd_generating.specs.Replicas.{AreClients, received_by}
use Rattle.yd_generating.proofs.generating.take_steps.Given as goal

-- so many steps are taken
abbrev pub invariant-loop-step : goal.invariant-loop-step
invariant-loop-step l = record {
  within : l.step ≤ l.steps;
  range : l.state < 2 ^ 31;
  state : l.state ≡ (generation l.step).state;
  three : received_by l.first l.second l.third ≡ (generation l.step).three;
  accepted : AreAccepted l.step;
  clients : AreClients l.first l.second l.third;
}

abbrev pub decreases-loop-step : goal.decreases-loop-step
decreases-loop-step l = l.steps - l.step
