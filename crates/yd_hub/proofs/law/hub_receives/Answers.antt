use Rattle.std.proofs.Common.{ap, sym, ◌∙◌}
use Rattle.yd_ops.specs.Received.{nothing_received, received_more}
use Rattle.yd_hub.specs.Hub.{updates_taken}
use Rattle.yd_hub.proofs.HubLemmas.{events_bring, more_appended}
use Rattle.yd_hub.proofs.law.hub_receives.Goals as goal

pub returns : goal.returns
returns c = record {
  received = events_bring;
  from_start = λ read hub first events e. events_bring read hub events ∙ ap (λ r. received_more r (updates_taken read hub events)) e
      ∙ sym (more_appended nothing_received first (updates_taken read hub events));
}
