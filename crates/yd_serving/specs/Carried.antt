-- Actions of a hub, carried out over a board, whole or up to where memory ends (own).
use Rattle.std.specs.Prelude.{◌≡◌, ℕ, Bool, List, [], ◌++◌, Result, Ok, Err}
use Rattle.yd_world.specs.declared.board.Sent.{Sent}
use Rattle.yd_sync.specs.Message.{MessageValue}
use Rattle.yd_sync.specs.MessageWriting.{bytes_of_message}
use Rattle.yd_hub.specs.Actions.{ActionValue, to_each}
use Rattle.yd_hub.specs.Carrying.{carried}
use Rattle.yd_serving.specs.Board.{Board, Trades}
use Rattle.yd_serving.specs.Reason.{reason_of}

-- the actions were carried out, with these outcomes of their sends: this was told, and these sessions have failed
pub record Carries (actions : List ActionValue) (failed failed_now : List ℕ) (old new : Board) : Type 0 where
  pub told : List Sent
  pub fails : List Bool
  pub outcome : (more : List Bool) → carried bytes_of_message reason_of actions failed (fails ++ more) ≡ record { told = told; failed = failed_now; fails = more }
  pub trades : Trades old new [] told

-- memory ended within them: what was told is a front of what they tell
pub record CarriesFront (actions : List ActionValue) (failed : List ℕ) (old new : Board) : Type 0 where
  pub told : List Sent
  pub rest : List Sent
  pub fails : List Bool
  pub front : (carried bytes_of_message reason_of actions failed fails).told ≡ told ++ rest
  pub trades : Trades old new [] told

-- the one or the other
abbrev pub CarriesOn : {E : Type 0} → List ActionValue → List ℕ → List ℕ → Board → Board → Result (Unit {0}) E → Type 0
CarriesOn actions failed failed_now old new (Ok done) = Carries actions failed failed_now old new
CarriesOn actions failed failed_now old new (Err e) = CarriesFront actions failed old new

-- so it is of whatever message has these bytes, to each of these sessions
abbrev pub SendsOn : {E : Type 0} → List ℕ → List ℕ → List ℕ → List ℕ → Board → Board → Result (Unit {0}) E → Type 0
SendsOn bytes to failed failed_now old new result = (message : MessageValue) → bytes ≡ bytes_of_message message →
    CarriesOn (to_each message to) failed failed_now old new result
