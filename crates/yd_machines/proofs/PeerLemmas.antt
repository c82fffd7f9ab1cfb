-- A peer, part by part: what a step changes of it.
use Rattle.std.proofs.Common.{◌≡◌, ℕ, Bool, List, [], ◌∷◌, ◌++◌, Result, Ok, Err, refl, sym, ap, subst}
use Rattle.yd_ids.specs.declared.id.Client.{Client}
use Rattle.yd_sync.specs.declared.fault.MessageError.{MessageError}
use Rattle.yd_sync.specs.declared.fault.MessageError.TheVariants as refusals
use Rattle.yd_sync.specs.declared.message.Message.{Message}
use Rattle.yd_sync.specs.Message.{MessageValue, message_value}
use Rattle.yd_sync.specs.MessageGrammar.{ReadsMessage}
use Rattle.yd_sync.specs.MessageLaw.{MessagesAreRead}
use Rattle.yd_sync.specs.MessageReading.{MakesMessage, message_reading}
use Rattle.yd_ops.specs.Received.{Received}
use Rattle.yd_aware.specs.AwareTable.{AwareTable}
use Rattle.std.specs.Prelude.{IfErr, IfOk, OnOk}
use Rattle.yd_doc.specs.Kept.{Kept}
use Rattle.yd_hub.specs.Peer.{PeerEventValue, PeerState, peer_after}
use Rattle.yd_machines.specs.declared.fault.PeerFault.{PeerFault}
use Rattle.yd_machines.specs.declared.list.MessageList.{MessageList}
use Rattle.yd_machines.specs.Asked.{IsVectorOf}
use Rattle.yd_machines.specs.PeerStep.{IsAnswer, RefusesEvent, TakesEvent}
use Rattle.yd_machines.specs.Sent.{sent_in, values_of}

-- a peer of these parts
abbrev pub peer_of : Received → AwareTable → Bool → Bool → PeerState
peer_of r table taken answered = record { received = r; own = table.own; table = table.rows; taken_step2 = taken; answered_step1 = answered }

pub other_received : (r s : Received) (table : AwareTable) (taken answered : Bool) → r ≡ s → peer_of r table taken answered ≡ peer_of s table taken answered
other_received r s table taken answered e = ap (λ x. peer_of x table taken answered) e

pub other_table : (r : Received) (table other : AwareTable) (taken answered : Bool) → table ≡ other → peer_of r table taken answered ≡ peer_of r other taken answered
other_table r table other taken answered e = ap (λ x. peer_of r x taken answered) e

-- one message more
pub values_with : (messages : List Message) (message : Message) → values_of (messages ++ message ∷ []) ≡ values_of messages ++ message_value message ∷ []
values_with [] message = refl
values_with (m ∷ ms) message = ap (λ vs. message_value m ∷ vs) (values_with ms message)

-- a message is read as what it is made of
pub makes_message : (bytes : List ℕ) (result : Result Message MessageError) → MessagesAreRead → ReadsMessage bytes result → MakesMessage result (message_reading bytes)
makes_message bytes (Ok m) law reads = (law.messages bytes (message_value m)).1 reads.rightly
makes_message bytes (Err refusals.NoMemory) law reads = tt
makes_message bytes (Err (refusals.Fault fault)) law reads = (law.faults bytes fault).1 reads.rightly

-- an event that is this one was taken
pub takes_one : (replica : Kept) (old new : PeerState) (event same : PeerEventValue) (vector : List (Client × ℕ)) → IsVectorOf replica vector → (sent : List MessageValue) →
    same ≡ event → new ≡ peer_after message_reading old event → IsAnswer replica old event sent → TakesEvent replica old new same sent
takes_one replica old new event same vector counts sent e after answer = subst (λ (v : PeerEventValue). TakesEvent replica old new v sent) (sym e)
    (record { vector = vector; counts = counts; after = after; answer = answer vector })

-- and so it is of what a call answers
pub takes_so : (replica : Kept) (old new : PeerState) (event same : PeerEventValue) (vector : List (Client × ℕ)) → IsVectorOf replica vector → (result : Result MessageList PeerFault) →
    same ≡ event → OnOk result (new ≡ peer_after message_reading old event) → IfOk result (λ sent. IsAnswer replica old event (sent_in sent)) →
    IfOk result (λ sent. TakesEvent replica old new same (sent_in sent))
takes_so replica old new event same vector counts (Ok sent) e after answer = takes_one replica old new event same vector counts (sent_in sent) e after answer
takes_so replica old new event same vector counts (Err fault) e after answer = tt

pub refuses_so : (old : PeerState) (event same : PeerEventValue) (result : Result MessageList PeerFault) → same ≡ event →
    IfErr result (RefusesEvent old event) → IfErr result (λ fault. RefusesEvent old same fault)
refuses_so old event same (Ok sent) e refused = tt
refuses_so old event same (Err fault) e refused = subst (λ (v : PeerEventValue). RefusesEvent old v fault) (sym e) refused
