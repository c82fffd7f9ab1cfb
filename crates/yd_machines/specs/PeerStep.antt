-- What a step of a peer does.
use Rattle.std.specs.Prelude.{◌≡◌, ℕ, false, List, [], ◌∷◌, Option, IfSome, Ok, Err}
use Rattle.yd_ids.specs.declared.id.Client.{Client}
use Rattle.yd_ops.specs.Valid.{IsValidUpdate}
use Rattle.yd_ops.specs.View.{update_value}
use Rattle.yd_sync.specs.declared.fault.MessageError.{MessageError}
use Rattle.yd_sync.specs.declared.fault.MessageError.TheVariants as errors
use Rattle.yd_sync.specs.Entry.{IsState}
use Rattle.yd_sync.specs.Message.{MessageValue, step1}
use Rattle.yd_sync.specs.MessageReading.{message_reading}
use Rattle.yd_doc.specs.Kept.{Kept, received_of}
use Rattle.yd_hub.specs.Answers.{Answers}
use Rattle.yd_hub.specs.Peer.{PeerEventValue, PeerState, bad, clock_full, edited, opened, after_heard, answer_to_heard, message_of, own_state, peer_after, peer_answer, received, stated, tick}
use Rattle.yd_machines.specs.declared.event.PeerEvent.{PeerEvent}
use Rattle.yd_machines.specs.declared.event.PeerEvent.TheVariants.{Edited, Opened, Received, State, Tick}
use Rattle.yd_machines.specs.declared.fault.PeerFault.{PeerFault}
use Rattle.yd_machines.specs.declared.fault.PeerFault.TheVariants as faults
use Rattle.yd_machines.specs.declared.peer.Peer.{Peer}
use Rattle.yd_machines.specs.Asked.{IsVectorOf, answers_in}

-- the replica of a peer
abbrev pub replica_of : Peer → Kept
replica_of peer = peer.replica

-- a peer, as the laws see it
abbrev pub peer_state : Peer → PeerState
peer_state peer = record {
  received = received_of peer.replica;
  own = peer.table.own;
  table = peer.table.rows;
  taken_step2 = peer.taken_step2;
  answered_step1 = peer.answered_step1;
}

-- a peer that begins: its replica has received this, and it knows of nobody
abbrev pub first_peer : Kept → Option Client → PeerState
first_peer replica own = record {
  received = received_of replica;
  own = own;
  table = [];
  taken_step2 = false;
  answered_step1 = false;
}

-- an event as plain data
abbrev pub event_value : PeerEvent → PeerEventValue
event_value (Opened now) = opened now
event_value (Received bytes now) = received bytes now
event_value (Tick now) = tick now
event_value (Edited update) = edited (update_value update)
event_value (State state now) = stated state now

-- an edit is told by a valid update, and a state is not the text `null`
abbrev pub IsProperEvent : PeerEvent → Type 0
IsProperEvent (Opened now) = Unit {0}
IsProperEvent (Received bytes now) = Unit {0}
IsProperEvent (Tick now) = Unit {0}
IsProperEvent (Edited update) = IsValidUpdate (update_value update)
IsProperEvent (State state now) = IfSome state IsState

-- a step took an event: the peer is what the event makes of it, and these messages answer it, as
-- the replica answers before it
pub record TakesEvent (replica : Kept) (old new : PeerState) (event : PeerEventValue) (sent : List MessageValue) : Type 0 where
  pub vector : List (Client × ℕ)
  pub counts : IsVectorOf replica vector
  pub after : new ≡ peer_after message_reading old event
  pub answer : peer_answer message_reading (answers_in replica vector) old event ≡ Ok sent

-- a step refused an event, whatever the replica answers; want of memory has no reason
abbrev pub RefusesEvent : PeerState → PeerEventValue → PeerFault → Type 0
RefusesEvent old event faults.NoMemory = Unit {0}
RefusesEvent old event (faults.Bad fault) = (answers : Answers) →
    peer_answer message_reading answers old event ≡ Err (bad fault)
RefusesEvent old event faults.ClockFull = (answers : Answers) →
    peer_answer message_reading answers old event ≡ Err clock_full

-- a message was taken: the peer is what it makes of it, and these messages answer it, with whatever
-- state vector the replica has
pub record TakesMessage (replica : Kept) (old new : PeerState) (now : ℕ) (message : MessageValue) (sent : List MessageValue) : Type 0 where
  pub after : new ≡ after_heard old now (Ok message)
  pub answer : (vector : List (Client × ℕ)) →
      answer_to_heard (answers_in replica vector) old (Ok message) ≡ Ok sent

-- why bytes are refused that could not be read
abbrev pub fault_of : MessageError → PeerFault
fault_of errors.NoMemory = faults.NoMemory
fault_of (errors.Fault fault) = faults.Bad fault

-- the fault is why the bytes are no message; want of memory has no reason
abbrev pub IsNoMessage : List ℕ → PeerFault → Type 0
IsNoMessage bytes faults.NoMemory = Unit {0}
IsNoMessage bytes (faults.Bad fault) = message_reading bytes ≡ Err fault
IsNoMessage bytes faults.ClockFull = ⊥

-- these are the messages that answer an event, with whatever state vector the replica has
abbrev pub IsAnswer : Kept → PeerState → PeerEventValue → List MessageValue → Type 0
IsAnswer replica old event sent = (vector : List (Client × ℕ)) →
    peer_answer message_reading (answers_in replica vector) old event ≡ Ok sent

-- the connection stands: a state vector that counts what is held is asked with, and the own entry
-- told
pub record AsksFirst (replica : Kept) (peer : PeerState) (sent : List MessageValue) : Type 0 where
  pub vector : List (Client × ℕ)
  pub counts : IsVectorOf replica vector
  pub messages : sent ≡ step1 vector ∷ message_of (own_state peer.own peer.table)
