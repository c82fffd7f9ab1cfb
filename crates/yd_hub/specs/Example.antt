-- Small runs, and what is computed of them (own; the bytes are those of y-protocols' messages).
use Rattle.std.specs.Prelude.{◌≡◌, ℕ, ◌+◌, Bool, true, false, List, [], ◌∷◌, Option, Some, None, Result, Ok, Err, codes, if◌then◌else◌}
use Rattle.std.specs.Str.{bytes_eq}
use Rattle.yd_ops.specs.declared.lists.Parent.TheVariants.{Root}
use Rattle.yd_ops.specs.Value.{string, item, UpdateValue}
use Rattle.yd_ops.specs.Received.{nothing_received, received_set}
use Rattle.yd_world.specs.declared.event.Event.{Event}
use Rattle.yd_world.specs.declared.event.Session.{Session}
use Rattle.yd_world.specs.declared.event.What.{What}
use Rattle.yd_world.specs.declared.event.What.TheVariants.{Opened, Received as Heard, Idle}
use Rattle.yd_world.specs.declared.board.Sent.{Sent}
use Rattle.yd_world.specs.declared.board.Sent.TheVariants.{Message as Told, Close as Ended}
use Rattle.yd_sync.specs.declared.entry.AwareEntry.{AwareEntry}
use Rattle.yd_sync.specs.Message.{MessageValue, step1, step2, change, aware, auth, query}
use Rattle.yd_sync.specs.declared.fault.MessageFault.{MessageFault}
use Rattle.yd_sync.specs.declared.fault.MessageFault.TheVariants.{BadMessage}
use Rattle.yd_sync.specs.Table.{Row}
use Rattle.yd_hub.specs.declared.action.CloseCause.{CloseCause}
use Rattle.yd_hub.specs.declared.action.CloseCause.TheVariants.{Bad, TooManySessions}
use Rattle.yd_hub.specs.Actions.{ActionValue, send, close}
use Rattle.yd_hub.specs.Answers.{Answers, AreAnswersOf}
use Rattle.yd_hub.specs.Hub.{HubState, hub_after, hub_after_all, hub_actions}
use Rattle.yd_hub.specs.Peer.{PeerState, tick, stated, peer_after, peer_answer}
use Rattle.yd_hub.specs.Carrying.{send_failed}
use Rattle.yd_hub.specs.Serving.{Turn, turn_after, hub_served, told_served}
use Rattle.yd_hub.specs.Syncing.{synced, refused, status_of}

-- ---- two updates

-- client 1 put "abc" into the text "t"
abbrev pub abc_put : UpdateValue
abc_put = record {
  blocks = record {
    client = record { 0 = 1 };
    clock = 0;
    structs = item (record {
      id = record { client = record { 0 = 1 }; clock = 0 };
      left = None;
      right = None;
      list = Some (record { parent = Root (116 ∷ []); key = None });
      content = string (97 ∷ 98 ∷ 99 ∷ []);
    }) ∷ [];
  } ∷ [];
  deletes = [];
}

-- client 2 put "d" behind it
abbrev pub d_put : UpdateValue
d_put = record {
  blocks = record {
    client = record { 0 = 2 };
    clock = 0;
    structs = item (record {
      id = record { client = record { 0 = 2 }; clock = 0 };
      left = Some (record { client = record { 0 = 1 }; clock = 2 });
      right = None;
      list = None;
      content = string (100 ∷ []);
    }) ∷ [];
  } ∷ [];
  deletes = [];
}

-- ---- messages and their bytes

-- the text {"a":1}
abbrev pub state_text : List ℕ
state_text = 123 ∷ 34 ∷ 97 ∷ 34 ∷ 58 ∷ 49 ∷ 125 ∷ []

-- client 1 at a clock, with a state or without
abbrev pub entry_of : ℕ → Option (List ℕ) → List AwareEntry
entry_of clock state = record { client = record { 0 = 1 }; clock = clock; state = state } ∷ []

abbrev pub step1_bytes : List ℕ
step1_bytes = 0 ∷ 0 ∷ 1 ∷ 0 ∷ []

abbrev pub change_bytes : List ℕ
change_bytes = 0 ∷ 2 ∷ 10 ∷ 1 ∷ 1 ∷ 2 ∷ 0 ∷ 132 ∷ 1 ∷ 2 ∷ 1 ∷ 100 ∷ 0 ∷ []

abbrev pub aware_bytes : ℕ → List ℕ
aware_bytes clock = 1 ∷ 11 ∷ 1 ∷ 1 ∷ clock ∷ 7 ∷ state_text

-- the messages that come in the runs, by their bytes
abbrev pub read_here : List ℕ → Result MessageValue MessageFault
read_here bytes =
    if bytes_eq bytes step1_bytes then Ok (step1 [])
    else if bytes_eq bytes change_bytes then Ok (change d_put)
    else if bytes_eq bytes (aware_bytes 1) then Ok (aware (entry_of 1 (Some state_text)))
    else if bytes_eq bytes (aware_bytes 0) then Ok (aware (entry_of 0 (Some state_text)))
    else if bytes_eq bytes (0 ∷ 1 ∷ 2 ∷ []) then Ok (step2 d_put)
    else Err (BadMessage 7)

-- why sessions are closed in the runs
abbrev pub reason_here : CloseCause → List ℕ
reason_here (Bad fault) = codes "Bad"
reason_here TooManySessions = codes "TooManySessions"

-- what is sent in the runs, by its kind
abbrev pub write_here : MessageValue → List ℕ
write_here (step1 vector) = 0 ∷ 0 ∷ 3 ∷ 1 ∷ 1 ∷ 3 ∷ []
write_here (step2 update) = 0 ∷ 1 ∷ []
write_here (change update) = change_bytes
write_here (aware es) = aware_bytes 1
write_here (auth bytes) = 2 ∷ bytes
write_here query = 3 ∷ []

-- ---- a hub with two sessions

-- a hub that received "abc"
abbrev pub first_hub : HubState
first_hub = record { received = received_set (abc_put ∷ []); sessions = []; table = [] }

-- what its replica answers, and whether the update that comes is news
abbrev pub answers_here : Bool → Answers
answers_here news = record { vector = (record { 0 = 1 }, 3) ∷ []; deletes = []; reply = λ vector. abc_put; is_news = λ update. news }

abbrev pub turn_of : ℕ → What → Bool → List Bool → Turn
turn_of now what news fails = record { event = record { now = now; what = what }; answers = answers_here news; fails = fails }

abbrev pub session : ℕ → Session
session s = record { 0 = s }

-- both come; one asks, the other brings an update twice; one says twice who it is, and then with an older clock; the other
-- sends what is no message. The sends of the sixth event may fail
abbrev pub nine_turns : List Bool → List Turn
nine_turns fails =
    turn_of 0 (Opened (session 1)) false [] ∷ turn_of 0 (Heard (session 1) step1_bytes) false [] ∷ turn_of 0 (Opened (session 2)) false []
    ∷ turn_of 0 (Heard (session 2) change_bytes) true [] ∷ turn_of 0 (Heard (session 2) change_bytes) false [] ∷ turn_of 0 (Heard (session 1) (aware_bytes 1)) false fails
    ∷ turn_of 0 (Heard (session 1) (aware_bytes 1)) false [] ∷ turn_of 0 (Heard (session 1) (aware_bytes 0)) false [] ∷ turn_of 0 (Heard (session 2) (7 ∷ [])) false [] ∷ []

-- the actions of each event
abbrev pub orders_of : HubState → List Turn → List (List ActionValue)
orders_of hub [] = []
orders_of hub (turn ∷ turns) = hub_actions read_here turn.answers hub turn.event ∷ orders_of (hub_after read_here hub turn.event) turns

abbrev pub nine_orders : List (List ActionValue)
nine_orders =
    (send 1 (step1 ((record { 0 = 1 }, 3) ∷ [])) ∷ []) ∷ (send 1 (step2 abc_put) ∷ []) ∷ (send 2 (step1 ((record { 0 = 1 }, 3) ∷ [])) ∷ [])
    ∷ (send 1 (change d_put) ∷ []) ∷ [] ∷ (send 2 (aware (entry_of 1 (Some state_text))) ∷ [])
    ∷ [] ∷ [] ∷ (close 2 (Bad (BadMessage 7)) ∷ []) ∷ []

-- the hub after six events at this moment
abbrev pub six_events : ℕ → List Event
six_events now =
    record { now = now; what = Opened (session 1) } ∷ record { now = now; what = Heard (session 1) step1_bytes } ∷ record { now = now; what = Opened (session 2) }
    ∷ record { now = now; what = Heard (session 2) change_bytes } ∷ record { now = now; what = Heard (session 2) change_bytes } ∷ record { now = now; what = Heard (session 1) (aware_bytes 1) } ∷ []

abbrev pub told_message : ℕ → List ℕ → Sent
told_message to bytes = Told (session to) bytes false

-- the hub sends to the others, and nothing again; it closes what sends no message; where the send of the sixth event fails it
-- closes the other at once, and hears nothing of it any more; and it has received the same
pub record TwoSessions : Type 0 where
  pub orders : orders_of first_hub (nine_turns []) ≡ nine_orders
  pub told : told_served read_here write_here reason_here first_hub (nine_turns []) ≡
      told_message 1 (0 ∷ 0 ∷ 3 ∷ 1 ∷ 1 ∷ 3 ∷ []) ∷ told_message 1 (0 ∷ 1 ∷ []) ∷ told_message 2 (0 ∷ 0 ∷ 3 ∷ 1 ∷ 1 ∷ 3 ∷ []) ∷ told_message 1 change_bytes
      ∷ told_message 2 (aware_bytes 1) ∷ Ended (session 2) (codes "Bad") ∷ []
  pub told_failed : told_served read_here write_here reason_here first_hub (nine_turns (true ∷ [])) ≡
      told_message 1 (0 ∷ 0 ∷ 3 ∷ 1 ∷ 1 ∷ 3 ∷ []) ∷ told_message 1 (0 ∷ 1 ∷ []) ∷ told_message 2 (0 ∷ 0 ∷ 3 ∷ 1 ∷ 1 ∷ 3 ∷ []) ∷ told_message 1 change_bytes
      ∷ Told (session 2) (aware_bytes 1) true ∷ Ended (session 2) send_failed ∷ []
  pub received : (hub_served read_here write_here reason_here first_hub (nine_turns [])).received ≡ received_set (abc_put ∷ d_put ∷ [])
  pub received_failed : (hub_served read_here write_here reason_here first_hub (nine_turns (true ∷ []))).received ≡ received_set (abc_put ∷ d_put ∷ [])

-- a state ends 30,000 ms after it came, and all are told
pub record StatesEnd : Type 0 where
  pub not_yet : hub_actions read_here (answers_here false) (hub_after_all read_here first_hub (six_events 1000)) (record { now = 30999; what = Idle }) ≡ []
  pub ended : hub_actions read_here (answers_here false) (hub_after_all read_here first_hub (six_events 1000)) (record { now = 31000; what = Idle }) ≡
      send 1 (aware (entry_of 1 None)) ∷ send 2 (aware (entry_of 1 None)) ∷ []

-- ---- sends that fail, and fail again

-- four sessions, and clients 11, 12 and 13 that came from the first three
abbrev pub row_from : ℕ → Row
row_from s = (10 + s, record { clock = 1; state = Some state_text; moment = 0; source = s })

abbrev pub four_sessions : HubState
four_sessions = record { received = nothing_received; sessions = 1 ∷ 2 ∷ 3 ∷ 4 ∷ []; table = row_from 1 ∷ row_from 2 ∷ row_from 3 ∷ [] }

-- a message by its first client
abbrev pub write_client : MessageValue → List ℕ
write_client (step1 vector) = []
write_client (step2 update) = []
write_client (change update) = 0 ∷ []
write_client (aware []) = []
write_client (aware (e ∷ es)) = e.client.0 ∷ []
write_client (auth bytes) = []
write_client query = []

-- the fourth brings an update; the sends to the first two fail, and then that to the third that the first is gone
abbrev pub failing_turn : Turn
failing_turn = turn_of 0 (Heard (session 4) change_bytes) true (true ∷ true ∷ false ∷ true ∷ [])

-- each is closed at once; the hub hears of it after the actions, in the order of the failures; and nothing is for it meanwhile
pub record FailuresInOrder : Type 0 where
  pub told : (turn_after read_here write_client reason_here four_sessions failing_turn).outcome.told ≡
      Told (session 1) (0 ∷ []) true ∷ Ended (session 1) send_failed ∷ Told (session 2) (0 ∷ []) true ∷ Ended (session 2) send_failed ∷ Told (session 3) (0 ∷ []) false
      ∷ Told (session 3) (11 ∷ []) true ∷ Ended (session 3) send_failed ∷ Told (session 4) (11 ∷ []) false
      ∷ Told (session 4) (12 ∷ []) false ∷ Told (session 4) (13 ∷ []) false ∷ []
  pub closed : (turn_after read_here write_client reason_here four_sessions failing_turn).closed ≡ 1 ∷ 2 ∷ 3 ∷ []
  pub sessions : (turn_after read_here write_client reason_here four_sessions failing_turn).hub.sessions ≡ 4 ∷ []

-- ---- answers

-- the answers of a replica that received "abc" and no deletion are such
abbrev pub AnswersAreThere : Type 0
AnswersAreThere = AreAnswersOf (received_set (abc_put ∷ [])) (answers_here false)

-- ---- a peer

-- a peer of client 1 that received nothing, and one without a client that received "d"
abbrev pub first_peer : PeerState
first_peer = record { received = nothing_received; own = Some (record { 0 = 1 }); table = []; taken_step2 = false; answered_step1 = false }

abbrev pub other_peer : PeerState
other_peer = record { received = received_set (d_put ∷ []); own = None; table = []; taken_step2 = false; answered_step1 = false }

-- one's own state is sent when it is set, and again 15,000 ms later with the next clock
pub record OwnStateRenewed : Type 0 where
  pub set : peer_answer read_here (answers_here false) first_peer (stated (Some state_text) 0) ≡ Ok (aware (entry_of 1 (Some state_text)) ∷ [])
  pub not_yet : peer_answer read_here (answers_here false) (peer_after read_here first_peer (stated (Some state_text) 0)) (tick 14999) ≡ Ok []
  pub again : peer_answer read_here (answers_here false) (peer_after read_here first_peer (stated (Some state_text) 0)) (tick 15000) ≡ Ok (aware (entry_of 2 (Some state_text)) ∷ [])

-- a hub that asks and answers
abbrev pub three_turns : List Turn
three_turns = turn_of 0 (Opened (session 0)) false [] ∷ turn_of 0 (Heard (session 0) step1_bytes) false [] ∷ turn_of 0 (Heard (session 0) (0 ∷ 1 ∷ 2 ∷ [])) false [] ∷ []

abbrev pub two_turns : List ℕ → List Turn
two_turns bytes = turn_of 0 (Opened (session 0)) false [] ∷ turn_of 0 (Heard (session 0) bytes) false [] ∷ []

-- the loop ends once a step 1 was answered and a step 2 applied, whatever turns are left; with fewer turns there was no step 2;
-- what is no message is refused by its number; and a board without an event fails
pub record ComesInStep : Type 0 where
  pub in_step : status_of (synced read_here write_here 5 0 other_peer three_turns) ≡ 0
  pub taken : (synced read_here write_here 5 0 other_peer three_turns).taken ≡ 3
  pub told : (synced read_here write_here 5 0 other_peer three_turns).told ≡ told_message 0 (0 ∷ 0 ∷ 3 ∷ 1 ∷ 1 ∷ 3 ∷ []) ∷ told_message 0 (0 ∷ 1 ∷ []) ∷ []
  pub no_step2 : status_of (synced read_here write_here 2 0 other_peer three_turns) ≡ 8
  pub refuses : (synced read_here write_here 5 0 other_peer (two_turns (7 ∷ []))).ending ≡ refused 1 (BadMessage 7)
  pub no_event : status_of (synced read_here write_here 5 0 other_peer (two_turns step1_bytes)) ≡ 6
