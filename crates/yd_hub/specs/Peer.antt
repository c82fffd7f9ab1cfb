-- The peer: what is received, who is there, and how far its exchange with a hub came; what an event
-- changes, and what it answers (y-websocket's client; that old states end at a tick, and the two
-- marks, are own).
use Rattle.std.specs.Prelude.{ℕ, ◌-◌, ◌^◌, Bool, true, false, ◌&&◌, ◌||◌, List, [], ◌∷◌, ◌++◌, Option, Some, None, Result, Ok, Err, if◌then◌else◌, is_some, nat_le}
use Rattle.yd_ids.specs.declared.id.Client.{Client}
use Rattle.yd_ops.specs.Value.{UpdateValue}
use Rattle.yd_ops.specs.Received.{Received, received_after}
use Rattle.yd_sync.specs.declared.entry.AwareEntry.{AwareEntry}
use Rattle.yd_sync.specs.declared.fault.MessageFault.{MessageFault}
use Rattle.yd_sync.specs.Message.{MessageValue, step1, step2, change, aware, auth, query}
use Rattle.yd_sync.specs.Table.{Row, after_entries, after_local, is_due, is_old, own_entry, standing_in, states_of, without_states}
use Rattle.yd_hub.specs.Answers.{Answers}
use Rattle.yd_hub.specs.Hub.{updates_of_reading}

-- what is received, one's own client where there is one, what is known of each client, and whether a step 2 was taken and a
-- step 1 answered
pub record PeerState : Type 0 where
  pub received : Received
  pub own : Option Client
  pub table : List Row
  pub taken_step2 : Bool
  pub answered_step1 : Bool

-- a connection stands; a message came; nothing came for a while; an edit was made; one's own state is set
pub data PeerEventValue : Type 0 where
  opened : ℕ → PeerEventValue
  received : List ℕ → ℕ → PeerEventValue
  tick : ℕ → PeerEventValue
  edited : UpdateValue → PeerEventValue
  stated : Option (List ℕ) → ℕ → PeerEventValue

-- why an event is refused
pub data Refusal : Type 0 where
  bad : MessageFault → Refusal
  clock_full : Refusal

-- a message of entries, if there is one
abbrev pub message_of : List AwareEntry → List MessageValue
message_of [] = []
message_of (e ∷ es) = aware (e ∷ es) ∷ []

-- ---- what an event changes

-- bytes came: they are a message, or change nothing
abbrev pub after_heard : PeerState → ℕ → Result MessageValue MessageFault → PeerState
after_heard peer now (Ok (step1 vector)) = record peer { answered_step1 = true }
after_heard peer now (Ok (step2 update)) = record peer { received = received_after peer.received update; taken_step2 = true }
after_heard peer now (Ok (change update)) = record peer { received = received_after peer.received update }
after_heard peer now (Ok (aware es)) = record peer { table = after_entries peer.own now 0 es peer.table }
after_heard peer now (Ok (auth bytes)) = peer
after_heard peer now (Ok query) = peer
after_heard peer now (Err fault) = peer

-- the entries of one's own state, where there is one
abbrev pub own_state : Option Client → List Row → List AwareEntry
own_state None table = []
own_state (Some own) table = if is_some (standing_in table own.0).state then own_entry (Some own) table else []

-- one's own clock is the greatest
abbrev pub is_clock_full : Option Client → List Row → Bool
is_clock_full None table = false
is_clock_full (Some own) table = nat_le (2 ^ 53 - 1) (standing_in table own.0).clock

-- the table after one's own state was set
abbrev pub after_stated : Option Client → Option (List ℕ) → ℕ → List Row → List Row
after_stated None state now table = table
after_stated (Some own) state now table = after_local own state now table

-- the state of one's own, where there is one
abbrev pub state_of_own : Option Client → List Row → Option (List ℕ)
state_of_own None table = None
state_of_own (Some own) table = (standing_in table own.0).state

-- the table without old states, and with one's own renewed where it is due
abbrev pub table_ticked : Option Client → ℕ → List Row → List Row
table_ticked own now table =
    if is_due own now table then after_stated own (state_of_own own table) now (without_states (is_old own now) table)
    else without_states (is_old own now) table

-- the own state would have to be renewed, and its clock is the greatest
abbrev pub is_stuck : Option Client → ℕ → List Row → Bool
is_stuck own now table = is_due own now table && is_clock_full own table

-- how bytes are read
module _ (read : List ℕ → Result MessageValue MessageFault) where
  -- a refused event changes nothing
  abbrev pub peer_after : PeerState → PeerEventValue → PeerState
  peer_after peer (opened now) = peer
  peer_after peer (received bytes now) = after_heard peer now (read bytes)
  peer_after peer (tick now) = if is_stuck peer.own now peer.table then peer else record peer { table = table_ticked peer.own now peer.table }
  peer_after peer (edited update) = record peer { received = received_after peer.received update }
  peer_after peer (stated state now) = if is_clock_full peer.own peer.table then peer else record peer { table = after_stated peer.own state now peer.table }

  -- after any list of events
  abbrev pub peer_after_all : PeerState → List PeerEventValue → PeerState
  peer_after_all peer [] = peer
  peer_after_all peer (event ∷ events) = peer_after_all (peer_after peer event) events

  -- ---- what is taken

  -- the update of a Step2, a Change or an edit
  abbrev pub updates_of_event : PeerEventValue → List UpdateValue
  updates_of_event (opened now) = []
  updates_of_event (received bytes now) = updates_of_reading (read bytes)
  updates_of_event (tick now) = []
  updates_of_event (edited update) = update ∷ []
  updates_of_event (stated state now) = []

  -- the updates of them all, in their order
  abbrev pub peer_updates : List PeerEventValue → List UpdateValue
  peer_updates [] = []
  peer_updates (event ∷ events) = updates_of_event event ++ peer_updates events

-- ---- what an event is answered by

-- a message is answered, or bytes that are none are refused
abbrev pub answer_to_heard : Answers → PeerState → Result MessageValue MessageFault → Result (List MessageValue) Refusal
answer_to_heard answers peer (Ok (step1 vector)) = Ok (step2 (answers.reply vector) ∷ [])
answer_to_heard answers peer (Ok (step2 update)) = Ok []
answer_to_heard answers peer (Ok (change update)) = Ok []
answer_to_heard answers peer (Ok (aware es)) = Ok []
answer_to_heard answers peer (Ok (auth bytes)) = Ok []
answer_to_heard answers peer (Ok query) = Ok (aware (states_of peer.table) ∷ [])
answer_to_heard answers peer (Err fault) = Err (bad fault)

module _ (read : List ℕ → Result MessageValue MessageFault) where
  -- the messages that an event sends, where the replica answers so before it, or why it is refused
  abbrev pub peer_answer : Answers → PeerState → PeerEventValue → Result (List MessageValue) Refusal
  peer_answer answers peer (opened now) = Ok (step1 answers.vector ∷ message_of (own_state peer.own peer.table))
  peer_answer answers peer (received bytes now) = answer_to_heard answers peer (read bytes)
  peer_answer answers peer (tick now) =
      if is_stuck peer.own now peer.table then Err clock_full
      else if is_due peer.own now peer.table then Ok (message_of (own_entry peer.own (table_ticked peer.own now peer.table)))
      else Ok []
  peer_answer answers peer (edited update) = Ok (change update ∷ [])
  peer_answer answers peer (stated state now) =
      if is_clock_full peer.own peer.table then Err clock_full
      else Ok (message_of (own_entry peer.own (after_stated peer.own state now peer.table)))

-- ---- the two marks

-- the message is a step 1
abbrev pub is_step1 : Result MessageValue MessageFault → Bool
is_step1 (Ok (step1 vector)) = true
is_step1 (Ok (step2 update)) = false
is_step1 (Ok (change update)) = false
is_step1 (Ok (aware es)) = false
is_step1 (Ok (auth bytes)) = false
is_step1 (Ok query) = false
is_step1 (Err fault) = false

-- the message is a step 2
abbrev pub is_step2 : Result MessageValue MessageFault → Bool
is_step2 (Ok (step1 vector)) = false
is_step2 (Ok (step2 update)) = true
is_step2 (Ok (change update)) = false
is_step2 (Ok (aware es)) = false
is_step2 (Ok (auth bytes)) = false
is_step2 (Ok query) = false
is_step2 (Err fault) = false

-- whether the message of an event passes a test
abbrev pub heard_as : (Result MessageValue MessageFault → Bool) → (List ℕ → Result MessageValue MessageFault) → PeerEventValue → Bool
heard_as test read (opened now) = false
heard_as test read (received bytes now) = test (read bytes)
heard_as test read (tick now) = false
heard_as test read (edited update) = false
heard_as test read (stated state now) = false

-- whether one of the messages received passes a test
abbrev pub has_heard : (Result MessageValue MessageFault → Bool) → (List ℕ → Result MessageValue MessageFault) → List PeerEventValue → Bool
has_heard test read [] = false
has_heard test read (event ∷ events) = heard_as test read event || has_heard test read events
