-- What follows sends that failed: the hub gets Closed of each of their sessions, whole or up to where memory ends (own).
use Rattle.std.specs.Prelude.{◌≡◌, ℕ, Bool, true, false, List, [], ◌∷◌, ◌++◌, map, length, Result, Ok, Err}
use Rattle.yd_world.specs.declared.board.Sent.{Sent}
use Rattle.yd_sync.specs.MessageReading.{message_reading}
use Rattle.yd_sync.specs.MessageWriting.{bytes_of_message}
use Rattle.yd_hub.specs.Carrying.{settled}
use Rattle.yd_hub.specs.Hub.{HubState, hub_after_all}
use Rattle.yd_hub.specs.Serving.{closed_at}
use Rattle.yd_hub.specs.Sessions.{is_open}
use Rattle.yd_serving.specs.Board.{Board, Trades}
use Rattle.yd_serving.specs.Reason.{reason_of}

-- no session twice
abbrev pub AreOnce : List ℕ → Type 0
AreOnce [] = Unit {0}
AreOnce (s ∷ ss) = (is_open ss s ≡ false) × AreOnce ss

-- these sessions are open, each is there once
abbrev pub AreEnding : HubState → List ℕ → Type 0
AreEnding hub failed = ((s : ℕ) → is_open failed s ≡ true → is_open hub.sessions s ≡ true) × AreOnce failed

-- the hub after Closed of these sessions
abbrev pub hub_closed : ℕ → HubState → List ℕ → HubState
hub_closed now hub closed = hub_after_all message_reading hub (map (closed_at message_reading bytes_of_message reason_of now) closed)

-- the hub got Closed of the sessions that failed, and of those that failed then, and what followed was told
pub record Settles (hub hub_now : HubState) (failed : List ℕ) (old new : Board) : Type 0 where
  pub told : List Sent
  pub closed : List ℕ
  pub fails : List Bool
  pub outcome : settled bytes_of_message reason_of (length hub.sessions) hub failed fails
      ≡ record { hub = hub_now; outcome = record { told = told; failed = []; fails = [] }; closed = closed }
  pub trades : Trades old new [] told

-- memory ended within that: it got Closed of a front of them, and what was told is a front
pub record SettlesFront (now : ℕ) (hub hub_now : HubState) (failed : List ℕ) (old new : Board) : Type 0 where
  pub told : List Sent
  pub rest : List Sent
  pub closed : List ℕ
  pub later : List ℕ
  pub fails : List Bool
  pub front : (settled bytes_of_message reason_of (length hub.sessions) hub failed fails).outcome.told ≡ told ++ rest
  pub ends : (settled bytes_of_message reason_of (length hub.sessions) hub failed fails).closed ≡ closed ++ later
  pub state : hub_now ≡ hub_closed now hub closed
  pub trades : Trades old new [] told

-- the one or the other
abbrev pub SettlesOn : {E : Type 0} → ℕ → HubState → HubState → List ℕ → Board → Board → Result (Unit {0}) E → Type 0
SettlesOn now hub hub_now failed old new (Ok done) = Settles hub hub_now failed old new
SettlesOn now hub hub_now failed old new (Err e) = SettlesFront now hub hub_now failed old new
