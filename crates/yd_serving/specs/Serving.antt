-- A server's loop over a board: so many turns, or fewer where the board fails or memory ends (own).
use Rattle.std.specs.Prelude.{◌≡◌, ◌<◌, ◌≤◌, ◌⊎◌, ℕ, List, [], ◌++◌, map, length, Result, Ok, Err}
use Rattle.yd_world.specs.Faults.{Rose}
use Rattle.yd_world.specs.declared.board.Sent.{Sent}
use Rattle.yd_world.specs.declared.event.Event.{Event}
use Rattle.yd_world.specs.declared.fault.Outage.{Outage}
use Rattle.yd_world.specs.declared.fault.Outage.TheVariants as outages
use Rattle.yd_sync.specs.MessageReading.{message_reading}
use Rattle.yd_sync.specs.MessageWriting.{bytes_of_message}
use Rattle.yd_hub.specs.Hub.{HubState, hub_after_all}
use Rattle.yd_hub.specs.Serving.{Turn, events_served, hub_served, told_served}
use Rattle.yd_serving.specs.declared.fault.ServeFault.{ServeFault}
use Rattle.yd_serving.specs.declared.fault.ServeFault.TheVariants.{NoLink, NoMemory}
use Rattle.yd_serving.specs.Answering.{AnswersTurns}
use Rattle.yd_serving.specs.Board.{Board, Trades}
use Rattle.yd_serving.specs.Reason.{reason_of}

-- the events of turns
abbrev pub events_of : List Turn → List Event
events_of turns = map (λ (turn : Turn). turn.event) turns

-- these turns were served: just their events were taken of the board, the hub is where they leave it, and the board was told what
-- comes of them and nothing else; what a replica answers in them is that of one which received what the hub has
pub record ServesTurns (turns : List Turn) (hub hub_now : HubState) (old new : Board) : Type 0 where
  pub answered : AnswersTurns hub turns
  pub state : hub_now ≡ hub_served message_reading bytes_of_message reason_of hub turns
  pub trades : Trades old new (events_of turns) (told_served message_reading bytes_of_message reason_of hub turns)

-- so many turns were served
pub record ServesAll (count : ℕ) (hub hub_now : HubState) (old new : Board) : Type 0 where
  pub turns : List Turn
  pub served : ServesTurns turns hub hub_now old new
  pub all : length turns ≡ count

-- the board did not start, or had no event for one turn more, and its count of faults rose
pub record LosesLink (count : ℕ) (hub hub_now : HubState) (old new : Board) : Type 0 where
  pub turns : List Turn
  pub served : ServesTurns turns hub hub_now old new
  pub few : (length turns < count) ⊎ (turns ≡ [])
  pub rose : Rose old.faults new.faults

-- memory ended: the hub got a front of the events of at most so many turns, and what was told is a front
pub record ServesFront (count : ℕ) (hub hub_now : HubState) (old new : Board) : Type 0 where
  pub turns : List Turn
  pub got : List Event
  pub later : List Event
  pub told : List Sent
  pub rest : List Sent
  pub answered : AnswersTurns hub turns
  pub events : events_served message_reading bytes_of_message reason_of hub turns ≡ got ++ later
  pub front : told_served message_reading bytes_of_message reason_of hub turns ≡ told ++ rest
  pub few : length turns ≤ count
  pub state : hub_now ≡ hub_after_all message_reading hub got
  pub trades : Trades old new (events_of turns) told

-- one of the three
abbrev pub ServesOn : ℕ → HubState → HubState → Board → Board → Result (Unit {0}) ServeFault → Type 0
ServesOn count hub hub_now old new (Ok done) = ServesAll count hub hub_now old new
ServesOn count hub hub_now old new (Err NoLink) = LosesLink count hub hub_now old new
ServesOn count hub hub_now old new (Err NoMemory) = ServesFront count hub hub_now old new

-- why the loop ends where the board failed
abbrev pub serve_fault : Outage → ServeFault
serve_fault outages.NoMemory = NoMemory
serve_fault outages.Failed = NoLink

-- the board did not fail
abbrev pub IsLinked : {X : Type 0} → Result X ServeFault → Type 0
IsLinked (Ok x) = Unit {0}
IsLinked (Err NoMemory) = Unit {0}
IsLinked (Err NoLink) = ⊥
