-- The hub: what is received, which sessions are open, who is there; what an event changes, and what it orders (y-websocket's server; the limit of sessions and the closes are own).
use Rattle.std.specs.Prelude.{◌≤◌, ℕ, List, [], ◌∷◌, ◌++◌, length, None, Result, Ok, Err, if◌then◌else◌, nat_lt}
use Rattle.yd_ops.specs.Value.{UpdateValue}
use Rattle.yd_ops.specs.Received.{Received, received_after}
use Rattle.yd_world.specs.declared.event.Event.{Event}
use Rattle.yd_world.specs.declared.event.What.{What}
use Rattle.yd_world.specs.declared.event.What.TheVariants.{Opened, Received as Heard, Closed, Idle}
use Rattle.yd_sync.specs.declared.fault.MessageFault.{MessageFault}
use Rattle.yd_sync.specs.Message.{MessageValue, step1, step2, change, aware, auth, query}
use Rattle.yd_sync.specs.Table.{AreRows, Row, after_entries, ended_of, is_from, is_old, states_of, taken_of, without_states}
use Rattle.yd_hub.specs.declared.action.CloseCause.TheVariants.{Bad, TooManySessions}
use Rattle.yd_hub.specs.Sessions.{AreSessions, is_open, most_sessions, with_session, without}
use Rattle.yd_hub.specs.Actions.{ActionValue, close, entries_to, send, to_each}
use Rattle.yd_hub.specs.Answers.{Answers}

-- what is received, which sessions are open, and what is known of each client; the document is the replica's own
pub record HubState : Type 0 where
  pub received : Received
  pub sessions : List ℕ
  pub table : List Row

-- sessions ascend and are at most so many, and clients ascend
pub record IsHub (hub : HubState) : Type 0 where
  pub sessions : AreSessions hub.sessions
  pub few : length hub.sessions ≤ most_sessions
  pub rows : AreRows hub.table

-- ---- what an event changes

-- a session comes: it is open where there is room
abbrev pub after_opened : HubState → ℕ → HubState
after_opened hub session =
    if is_open hub.sessions session then hub
    else if nat_lt (length hub.sessions) most_sessions then record hub { sessions = with_session session hub.sessions }
    else hub

-- a session is open no more, and the states that were last taken from it end
abbrev pub after_closed : HubState → ℕ → HubState
after_closed hub session = record hub { sessions = without session hub.sessions; table = without_states (is_from session) hub.table }

-- so it is, where it was open
abbrev pub closed_if_open : HubState → ℕ → HubState
closed_if_open hub session = if is_open hub.sessions session then after_closed hub session else hub

-- time passes: old states end
abbrev pub after_idle : HubState → ℕ → HubState
after_idle hub now = record hub { table = without_states (is_old None now) hub.table }

-- an update came
abbrev pub after_update : HubState → UpdateValue → HubState
after_update hub update = record hub { received = received_after hub.received update }

-- a message came from an open session
abbrev pub after_message : HubState → ℕ → ℕ → MessageValue → HubState
after_message hub now session (step1 vector) = hub
after_message hub now session (step2 update) = after_update hub update
after_message hub now session (change update) = after_update hub update
after_message hub now session (aware es) = record hub { table = after_entries None now session es hub.table }
after_message hub now session (auth bytes) = hub
after_message hub now session query = hub

-- bytes came from an open session: they are a message, or the session ends
abbrev pub after_reading : HubState → ℕ → ℕ → Result MessageValue MessageFault → HubState
after_reading hub now session (Ok message) = after_message hub now session message
after_reading hub now session (Err fault) = after_closed hub session

-- ---- what an event orders

-- one that comes is asked for what is lacking here, and told who is there; one too many is closed
abbrev pub actions_of_opened : Answers → HubState → ℕ → List ActionValue
actions_of_opened answers hub session =
    if is_open hub.sessions session then []
    else if nat_lt (length hub.sessions) most_sessions then send session (step1 answers.vector) ∷ entries_to (states_of hub.table) (session ∷ [])
    else close session TooManySessions ∷ []

-- of a session that ended the others are told whose states ended with it
abbrev pub actions_of_closed : HubState → ℕ → List ActionValue
actions_of_closed hub session = entries_to (ended_of (is_from session) hub.table) (without session hub.sessions)

-- so they are, where it was open
abbrev pub actions_if_open : HubState → ℕ → List ActionValue
actions_if_open hub session = if is_open hub.sessions session then actions_of_closed hub session else []

-- all are told whose states are old
abbrev pub actions_of_idle : HubState → ℕ → List ActionValue
actions_of_idle hub now = entries_to (ended_of (is_old None now) hub.table) hub.sessions

-- an update that is news goes to each other session, and nothing goes back
abbrev pub actions_of_news : Answers → HubState → ℕ → UpdateValue → List ActionValue
actions_of_news answers hub session update = if answers.is_news update then to_each (change update) (without session hub.sessions) else []

-- a question is answered, and what is new goes to the others
abbrev pub actions_of_message : Answers → HubState → ℕ → ℕ → MessageValue → List ActionValue
actions_of_message answers hub now session (step1 vector) = send session (step2 (answers.reply vector)) ∷ []
actions_of_message answers hub now session (step2 update) = actions_of_news answers hub session update
actions_of_message answers hub now session (change update) = actions_of_news answers hub session update
actions_of_message answers hub now session (aware es) = entries_to (taken_of None now session es hub.table) (without session hub.sessions)
actions_of_message answers hub now session (auth bytes) = []
actions_of_message answers hub now session query = send session (aware (states_of hub.table)) ∷ []

-- bytes that are no message close their session
abbrev pub actions_of_reading : Answers → HubState → ℕ → ℕ → Result MessageValue MessageFault → List ActionValue
actions_of_reading answers hub now session (Ok message) = actions_of_message answers hub now session message
actions_of_reading answers hub now session (Err fault) = close session (Bad fault) ∷ actions_of_closed hub session

-- ---- what is taken

-- the update of a Step2 or Change
abbrev pub updates_of_reading : Result MessageValue MessageFault → List UpdateValue
updates_of_reading (Ok (step1 vector)) = []
updates_of_reading (Ok (step2 update)) = update ∷ []
updates_of_reading (Ok (change update)) = update ∷ []
updates_of_reading (Ok (aware es)) = []
updates_of_reading (Ok (auth bytes)) = []
updates_of_reading (Ok query) = []
updates_of_reading (Err fault) = []

-- ---- with the reading of messages

-- how bytes are read
module _ (read : List ℕ → Result MessageValue MessageFault) where
  -- what happened changes the hub
  abbrev pub after_what : HubState → ℕ → What → HubState
  after_what hub now (Opened s) = after_opened hub s.0
  after_what hub now (Heard s bytes) = if is_open hub.sessions s.0 then after_reading hub now s.0 (read bytes) else hub
  after_what hub now (Closed s) = closed_if_open hub s.0
  after_what hub now Idle = after_idle hub now

  -- the hub after an event
  abbrev pub hub_after : HubState → Event → HubState
  hub_after hub event = after_what hub event.now event.what

  -- after any list of events
  abbrev pub hub_after_all : HubState → List Event → HubState
  hub_after_all hub [] = hub
  hub_after_all hub (event ∷ events) = hub_after_all (hub_after hub event) events

  -- what happened orders these
  abbrev pub actions_of_what : Answers → HubState → ℕ → What → List ActionValue
  actions_of_what answers hub now (Opened s) = actions_of_opened answers hub s.0
  actions_of_what answers hub now (Heard s bytes) = if is_open hub.sessions s.0 then actions_of_reading answers hub now s.0 (read bytes) else []
  actions_of_what answers hub now (Closed s) = actions_if_open hub s.0
  actions_of_what answers hub now Idle = actions_of_idle hub now

  -- the actions that an event orders, where the replica answers so before it
  abbrev pub hub_actions : Answers → HubState → Event → List ActionValue
  hub_actions answers hub event = actions_of_what answers hub event.now event.what

  -- the update of a Step2 or Change from an open session
  abbrev pub updates_of_what : HubState → What → List UpdateValue
  updates_of_what hub (Opened s) = []
  updates_of_what hub (Heard s bytes) = if is_open hub.sessions s.0 then updates_of_reading (read bytes) else []
  updates_of_what hub (Closed s) = []
  updates_of_what hub Idle = []

  -- the updates of each Step2 and Change that came from an open session, in their order
  abbrev pub updates_taken : HubState → List Event → List UpdateValue
  updates_taken hub [] = []
  updates_taken hub (event ∷ events) = updates_of_what hub event.what ++ updates_taken (hub_after hub event) events
