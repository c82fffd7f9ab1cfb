-- The laws of a hub, as statements. How bytes are read is any function.
use Rattle.std.specs.Prelude.{◌≡◌, ◌≢◌, ◌⊎◌, ◌↔◌, ℕ, true, false, List, [], ◌∷◌, ◌++◌, Result, Ok, Err, length, nat_lt}
use Rattle.yd_words.specs.Member.{IsIn}
use Rattle.yd_ids.specs.declared.id.Client.{Client}
use Rattle.yd_ops.specs.Value.{UpdateValue}
use Rattle.yd_ops.specs.ReceivedLaw.{IsReceived}
use Rattle.yd_ops.specs.Received.{Received, received_after, received_more, received_set}
use Rattle.yd_world.specs.declared.event.Event.{Event}
use Rattle.yd_world.specs.declared.event.Session.{Session}
use Rattle.yd_world.specs.declared.event.What.{What}
use Rattle.yd_world.specs.declared.event.What.TheVariants.{Opened, Received as Heard, Closed, Idle}
use Rattle.yd_sync.specs.declared.fault.MessageFault.{MessageFault}
use Rattle.yd_sync.specs.Message.{MessageValue, change, step1, step2}
use Rattle.yd_hub.specs.Sessions.{is_open, most_sessions}
use Rattle.yd_hub.specs.Actions.{ActionValue, IsOrder, send}
use Rattle.yd_hub.specs.Answers.{Answers, AreAnswersOf, TellsNews}
use Rattle.yd_hub.specs.Hub.{HubState, IsHub, hub_actions, hub_after, hub_after_all, updates_taken}

-- how bytes are read
abbrev pub Reading : Type 0
Reading = List ℕ → Result MessageValue MessageFault

-- ---- what is received

-- after any list of events a hub has received what it had and the updates of every Step2 and Change that it took from an open session
pub record HubReceives : Type 0 where
  pub received : (read : Reading) (hub : HubState) (events : List Event) → (hub_after_all read hub events).received ≡ received_more hub.received (updates_taken read hub events)
  pub from_start : (read : Reading) (hub : HubState) (first : List UpdateValue) (events : List Event) → hub.received ≡ received_set first →
      (hub_after_all read hub events).received ≡ received_set (first ++ updates_taken read hub events)

-- bytes that are no Step2 and no Change leave it as it was, whoever sends them
abbrev pub OtherBytesChangeNothing : Type 0
OtherBytesChangeNothing = (read : Reading) (hub : HubState) (now : ℕ) (s : Session) (bytes : List ℕ) →
    ((u : UpdateValue) → read bytes ≢ Ok (step2 u)) → ((u : UpdateValue) → read bytes ≢ Ok (change u)) →
    (hub_after read hub (record { now = now; what = Heard s bytes })).received ≡ hub.received

-- ---- sessions

-- sessions ascend and are at most 1,024, whatever happens; and what is ordered is at most one close, and sends to open ones
pub record HubStays : Type 0 where
  pub is_hub : (read : Reading) (hub : HubState) (events : List Event) → IsHub hub → IsHub (hub_after_all read hub events)
  pub orders : (read : Reading) (answers : Answers) (hub : HubState) (event : Event) → IsOrder (hub_after read hub event).sessions (hub_actions read answers hub event)

-- the event is of the session
abbrev pub IsOf : ℕ → What → Type 0
IsOf session (Opened s) = s.0 ≡ session
IsOf session (Heard s bytes) = s.0 ≡ session
IsOf session (Closed s) = s.0 ≡ session
IsOf session Idle = ⊥

-- which sessions are open: one that opened where there was room, until it closed or sent what is no message; no message and no
-- other session's event changes it
pub record SessionsFollow : Type 0 where
  pub opens : (read : Reading) (hub : HubState) (now : ℕ) (s : Session) → nat_lt (length hub.sessions) most_sessions ≡ true →
      is_open (hub_after read hub (record { now = now; what = Opened s })).sessions s.0 ≡ true
  pub full : (read : Reading) (hub : HubState) (now : ℕ) (s : Session) → nat_lt (length hub.sessions) most_sessions ≡ false →
      (hub_after read hub (record { now = now; what = Opened s })).sessions ≡ hub.sessions
  pub closes : (read : Reading) (hub : HubState) (now : ℕ) (s : Session) → is_open (hub_after read hub (record { now = now; what = Closed s })).sessions s.0 ≡ false
  pub refuses : (read : Reading) (hub : HubState) (now : ℕ) (s : Session) (bytes : List ℕ) (fault : MessageFault) → read bytes ≡ Err fault →
      is_open (hub_after read hub (record { now = now; what = Heard s bytes })).sessions s.0 ≡ false
  pub hears : (read : Reading) (hub : HubState) (now : ℕ) (s : Session) (bytes : List ℕ) (message : MessageValue) → read bytes ≡ Ok message →
      (hub_after read hub (record { now = now; what = Heard s bytes })).sessions ≡ hub.sessions
  pub others : (read : Reading) (hub : HubState) (event : Event) (session : ℕ) → (IsOf session event.what → ⊥) →
      is_open (hub_after read hub event).sessions session ≡ is_open hub.sessions session

-- ---- what is sent

-- a Step1 from an open session is answered by a Step2 of the reply to its vector, and by nothing else
abbrev pub StepsAreAnswered : Type 0
StepsAreAnswered = (read : Reading) (answers : Answers) (hub : HubState) (now : ℕ) (s : Session) (bytes : List ℕ) (vector : List (Client × ℕ)) →
    is_open hub.sessions s.0 ≡ true → read bytes ≡ Ok (step1 vector) →
    hub_actions read answers hub (record { now = now; what = Heard s bytes }) ≡ send s.0 (step2 (answers.reply vector)) ∷ []

-- what an update from an open session sends: where it is news a Change of it to each other open session, and nothing else, to
-- nobody else, and not back
abbrev pub ChangesGoOn : Type 0
ChangesGoOn = (read : Reading) (answers : Answers) (hub : HubState) (now : ℕ) (s : Session) (bytes : List ℕ) (update : UpdateValue) → is_open hub.sessions s.0 ≡ true →
    (read bytes ≡ Ok (step2 update)) ⊎ (read bytes ≡ Ok (change update)) → (action : ActionValue) →
    IsIn action (hub_actions read answers hub (record { now = now; what = Heard s bytes }))
    ↔ (answers.is_news update ≡ true) × ((to : ℕ) × (is_open hub.sessions to ≡ true) × (to ≢ s.0) × (action ≡ send to (change update)))

-- an update that comes again is no news, whatever the replica's document is
abbrev pub RepeatsAreNoNews : Type 0
RepeatsAreNoNews = (r : Received) (update : UpdateValue) (answers : Answers) → IsReceived r →
    AreAnswersOf (received_after r update) answers → TellsNews (received_after r update) answers → answers.is_news update ≡ false
