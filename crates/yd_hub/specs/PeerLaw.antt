-- The laws of a peer, as statements, and of what it has after a reply. How bytes are read is any function.
use Rattle.std.specs.Prelude.{◌≡◌, ℕ, false, List, Ok}
use Rattle.yd_words.specs.Each.{Each}
use Rattle.yd_ids.specs.Vector.{clock_of}
use Rattle.yd_ops.specs.Valid.{IsValidUpdate}
use Rattle.yd_ops.specs.ReceivedLaw.{IsReceived}
use Rattle.yd_ops.specs.Received.{Received, received_more}
use Rattle.yd_meaning.specs.Law.{IsCompleted}
use Rattle.yd_sync.specs.Message.{step2}
use Rattle.yd_hub.specs.Answers.{Answers, AreAnswersOf}
use Rattle.yd_hub.specs.HubLaw.{Reading}
use Rattle.yd_hub.specs.Peer.{PeerEventValue, PeerState, has_heard, is_step1, is_step2, peer_after, peer_after_all, peer_updates, received}

-- after any list of events a peer has received what it had and the updates of each Step2, Change
-- and edit; and its marks tell which messages came
pub record PeerReceives : Type 0 where
  pub received : (read : Reading) (peer : PeerState) (events : List PeerEventValue) →
      (peer_after_all read peer events).received
      ≡ received_more peer.received (peer_updates read events)
  pub taken_step2 : (read : Reading) (peer : PeerState) (events : List PeerEventValue) →
      peer.taken_step2 ≡ false →
      (peer_after_all read peer events).taken_step2 ≡ has_heard is_step2 read events
  pub answered_step1 : (read : Reading) (peer : PeerState) (events : List PeerEventValue) →
      peer.answered_step1 ≡ false →
      (peer_after_all read peer events).answered_step1 ≡ has_heard is_step1 read events

-- a Step2 that answered this peer's Step1, taken after whatever else, leaves it with each id and each deletion that the other
-- had when it answered, and with nothing of what was sent spelled fuller
abbrev pub RepliesComplete : Type 0
RepliesComplete = (read : Reading) (peer : PeerState) (other : Received) (asked answered : Answers) (between : List PeerEventValue) (bytes : List ℕ) (now : ℕ) →
    IsReceived peer.received → Each IsValidUpdate (peer_updates read between) → AreAnswersOf peer.received asked → AreAnswersOf other answered →
    read bytes ≡ Ok (step2 (answered.reply asked.vector)) →
    IsCompleted other (peer_after read (peer_after_all read peer between) (received bytes now)).received (clock_of asked.vector)
