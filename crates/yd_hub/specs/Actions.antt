-- What a hub orders: messages to sessions, and closes (y-websocket's server sends so; the closes are own).
use Rattle.std.specs.Prelude.{◌≡◌, ℕ, true, false, List, [], ◌∷◌}
use Rattle.yd_words.specs.Each.{Each}
use Rattle.yd_sync.specs.declared.entry.AwareEntry.{AwareEntry}
use Rattle.yd_sync.specs.Message.{MessageValue, aware}
use Rattle.yd_hub.specs.declared.action.CloseCause.{CloseCause}
use Rattle.yd_hub.specs.Sessions.{is_open}

-- a message goes to a session; a session is closed
pub data ActionValue : Type 0 where
  send : ℕ → MessageValue → ActionValue
  close : ℕ → CloseCause → ActionValue

-- a message to each of these sessions
abbrev pub to_each : MessageValue → List ℕ → List ActionValue
to_each message [] = []
to_each message (s ∷ sessions) = send s message ∷ to_each message sessions

-- entries to each of these sessions, if there is an entry
abbrev pub entries_to : List AwareEntry → List ℕ → List ActionValue
entries_to [] sessions = []
entries_to (e ∷ es) sessions = to_each (aware (e ∷ es)) sessions

-- a send to an open session
abbrev pub IsSendTo : List ℕ → ActionValue → Type 0
IsSendTo sessions (send to message) = is_open sessions to ≡ true
IsSendTo sessions (close to cause) = ⊥

-- at most one close, which comes first and is of a session that is not open, and then sends to open ones
abbrev pub IsOrder : List ℕ → List ActionValue → Type 0
IsOrder sessions [] = Unit {0}
IsOrder sessions (send to message ∷ actions) = (is_open sessions to ≡ true) × Each (IsSendTo sessions) actions
IsOrder sessions (close to cause ∷ actions) = (is_open sessions to ≡ false) × Each (IsSendTo sessions) actions
