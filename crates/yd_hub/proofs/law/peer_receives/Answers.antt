use Rattle.std.proofs.Common.{◌||◌, ap, ◌∙◌}
use Rattle.yd_hub.specs.Peer.{is_step1, is_step2, has_heard}
use Rattle.yd_hub.proofs.PeerLemmas.{peer_events_bring, events_step1, events_step2}
use Rattle.yd_hub.proofs.law.peer_receives.Goals as goal

pub returns : goal.returns
returns c = record {
  received = peer_events_bring;
  taken_step2 = λ read peer events e. events_step2 read peer events ∙ ap (λ t. t || has_heard is_step2 read events) e;
  answered_step1 = λ read peer events e. events_step1 read peer events ∙ ap (λ t. t || has_heard is_step1 read events) e;
}
