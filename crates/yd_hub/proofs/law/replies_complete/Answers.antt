-- The peer has received more, and then the reply.
use Rattle.std.proofs.Common.{subst, sym, ap, ◌∙◌}
use Rattle.yd_ids.specs.Vector.{clock_of}
use Rattle.yd_ops.specs.Received.{received_after, received_more}
use Rattle.yd_meaning.specs.Law.{IsCompleted}
use Rattle.yd_hub.specs.Hub.{updates_of_reading}
use Rattle.yd_hub.specs.Peer.{received, peer_after_all, peer_updates}
use Rattle.yd_hub.proofs.PeerLemmas.{peer_event_brings, peer_events_bring}
use Rattle.yd_hub.proofs.ExchangeLemmas.{reply_completes}
use Rattle.yd_hub.proofs.law.replies_complete.Goals as goal

pub returns : goal.returns
returns c = λ read peer other asked answered between bytes now is valid ask answer e.
    subst (λ r. IsCompleted other r (clock_of asked.vector))
    (sym (peer_event_brings read (peer_after_all read peer between) (received bytes now)
    ∙ ap (λ reading. received_more (peer_after_all read peer between).received (updates_of_reading reading)) e
    ∙ ap (λ r. received_after r (answered.reply asked.vector)) (peer_events_bring read peer between)))
    (reply_completes peer.received other asked answered (peer_updates read between) is valid ask answer)
