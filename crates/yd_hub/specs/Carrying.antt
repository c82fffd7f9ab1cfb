-- Carrying out actions over a board that may fail sends: a session whose send fails is closed at once, nothing more is for it, and the hub gets its Closed after the actions (own).
use Rattle.std.specs.Prelude.{◌≡◌, ◌≢◌, ℕ, zero, suc, Bool, true, false, List, [], ◌∷◌, ◌++◌, codes, length, if◌then◌else◌}
use Rattle.yd_words.specs.Each.{Each}
use Rattle.yd_world.specs.declared.board.Sent.{Sent}
use Rattle.yd_world.specs.declared.board.Sent.TheVariants.{Message as Told, Close as Ended}
use Rattle.yd_sync.specs.Message.{MessageValue}
use Rattle.yd_hub.specs.declared.action.CloseCause.{CloseCause}
use Rattle.yd_hub.specs.Sessions.{is_open}
use Rattle.yd_hub.specs.Actions.{ActionValue, close, send}
use Rattle.yd_hub.specs.Hub.{HubState, actions_if_open, closed_if_open}

-- why a session is closed whose send failed
abbrev pub send_failed : List ℕ
send_failed = codes "SendFailed"

-- what came of actions: the sends and closes that the board was told, the sessions that failed and of which the hub is
-- still to get Closed, in the order of the failures, and the outcomes of later sends
pub record Outcome : Type 0 where
  pub told : List Sent
  pub failed : List ℕ
  pub fails : List Bool

-- whether the next send fails; where no outcome is left, none does
abbrev pub next_fails : List Bool → Bool
next_fails [] = false
next_fails (fail ∷ fails) = fail

-- the outcomes behind the next one
abbrev pub later_fails : List Bool → List Bool
later_fails [] = []
later_fails (fail ∷ fails) = fails

-- the board was told this before
abbrev pub with_told : List Sent → Outcome → Outcome
with_told told outcome = record outcome { told = told ++ outcome.told }

-- a hub, what came of the actions, and the sessions of which it got Closed, in this order
pub record Settled : Type 0 where
  pub hub : HubState
  pub outcome : Outcome
  pub closed : List ℕ

-- before it the board was told this
abbrev pub settled_after : List Sent → Settled → Settled
settled_after told settled = record settled { outcome = with_told told settled.outcome }

-- before it the hub got Closed of a session, and what came of its actions was told
abbrev pub settled_behind : ℕ → List Sent → Settled → Settled
settled_behind session told settled = record { hub = settled.hub; outcome = with_told told settled.outcome; closed = session ∷ settled.closed }

-- how messages are written, and why sessions are closed
module _ (write : MessageValue → List ℕ) (reason : CloseCause → List ℕ) where
  -- a send, and the close of its session where it fails
  abbrev pub told_of_send : ℕ → MessageValue → Bool → List Sent
  told_of_send to message true = Told (record { 0 = to }) (write message) true ∷ Ended (record { 0 = to }) send_failed ∷ []
  told_of_send to message false = Told (record { 0 = to }) (write message) false ∷ []

  -- the actions one after another; the outcomes of the sends are those that the board gives
  abbrev pub carried : List ActionValue → List ℕ → List Bool → Outcome
  carried [] failed fails = record { told = []; failed = failed; fails = fails }
  carried (send to message ∷ actions) failed fails =
      if is_open failed to then carried actions failed fails
      else with_told (told_of_send to message (next_fails fails)) (carried actions (if next_fails fails then failed ++ to ∷ [] else failed) (later_fails fails))
  carried (close to cause ∷ actions) failed fails =
      if is_open failed to then carried actions failed fails
      else with_told (Ended (record { 0 = to }) (reason cause) ∷ []) (carried actions failed fails)

  -- the hub gets Closed of the sessions that failed, one after another, and its actions are carried out in the same way; one
  -- that fails in them comes last. At most so many come
  abbrev pub settled : ℕ → HubState → List ℕ → List Bool → Settled
  settled zero hub failed fails = record { hub = hub; outcome = record { told = []; failed = failed; fails = fails }; closed = [] }
  settled (suc n) hub [] fails = record { hub = hub; outcome = record { told = []; failed = []; fails = fails }; closed = [] }
  settled (suc n) hub (session ∷ failed) fails =
      let outcome = carried (actions_if_open hub session) failed fails in
      settled_behind session outcome.told (settled n (closed_if_open hub session) outcome.failed outcome.fails)

  -- all that comes of actions of a hub: as many sessions may fail as are open
  abbrev pub carried_out : HubState → List ActionValue → List Bool → Settled
  carried_out hub actions fails =
      let outcome = carried actions [] fails in
      settled_after outcome.told (settled (length hub.sessions) hub outcome.failed outcome.fails)

-- which of the sends failed
abbrev pub flags_of : List Sent → List Bool
flags_of [] = []
flags_of (Told to bytes fails ∷ told) = fails ∷ flags_of told
flags_of (Ended to why ∷ told) = flags_of told

-- ---- what is claimed of it

-- the session that a send or close is of
abbrev pub session_of : Sent → ℕ
session_of (Told to bytes failed) = to.0
session_of (Ended to why) = to.0

-- nothing was sent to the session, and it was not closed
abbrev pub NothingFor : ℕ → List Sent → Type 0
NothingFor session told = Each (λ t. session_of t ≢ session) told

-- the next thing is that the session is closed as its send failed
abbrev pub IsClosedNext : ℕ → List Sent → Type 0
IsClosedNext session [] = ⊥
IsClosedNext session (Told to bytes failed ∷ told) = ⊥
IsClosedNext session (Ended to why ∷ told) = (to.0 ≡ session) × (why ≡ send_failed)

-- a session whose send failed is closed at once, and after its close nothing is for it: no send, and no second close
abbrev pub EndsOnce : List Sent → Type 0
EndsOnce [] = Unit {0}
EndsOnce (Told to bytes true ∷ told) = IsClosedNext to.0 told × EndsOnce told
EndsOnce (Told to bytes false ∷ told) = EndsOnce told
EndsOnce (Ended to why ∷ told) = NothingFor to.0 told × EndsOnce told

-- a session that was closed is not open
abbrev pub IsEndedIn : List ℕ → Sent → Type 0
IsEndedIn sessions (Told to bytes failed) = Unit {0}
IsEndedIn sessions (Ended to why) = is_open sessions to.0 ≡ false
