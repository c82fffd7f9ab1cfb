-- A board as a loop sees it, and what the loop did with it (own).
use Rattle.std.specs.Prelude.{◌≡◌, ℕ, ◌≤◌, true, false, List, ◌++◌, length, Option, Some, None}
use Rattle.yd_words.specs.Each.{Each}
use Rattle.yd_world.specs.Faults.{Rose}
use Rattle.yd_world.specs.Traffic.{Traffic}
use Rattle.yd_world.specs.declared.board.Sent.{Sent}
use Rattle.yd_world.specs.declared.board.Sent.TheVariants.{Message, Close}
use Rattle.yd_world.specs.declared.event.Event.{Event}

-- what a board tells, and how many faults it counted: of its link, and of sends to each session
pub record Board : Type 0 where
  pub told : Option Traffic
  pub faults : ℕ
  pub send_faults : ℕ → ℕ

-- a board of these
abbrev pub board_of : Option Traffic → ℕ → (ℕ → ℕ) → Board
board_of told faults send_faults = record { told = told; faults = faults; send_faults = send_faults }

-- these events were taken, and these were sent and closed
abbrev pub Passes : Option Traffic → Option Traffic → List Event → List Sent → Type 0
Passes None new events sent = Unit {0}
Passes (Some old) None events sent = ⊥
Passes (Some old) (Some new) events sent = (old.coming ≡ events ++ new.coming) × (new.sent ≡ old.sent ++ sent)

-- a send that failed is one at which its session's count rose
abbrev pub IsCounted : (ℕ → ℕ) → (ℕ → ℕ) → Sent → Type 0
IsCounted before now (Message to bytes true) = Rose (before to.0) (now to.0)
IsCounted before now (Message to bytes false) = Unit {0}
IsCounted before now (Close to reason) = Unit {0}

-- these events were taken of a board, and these were sent and closed; no count fell, and that of each session rose of which a send
-- failed
pub record Trades (old new : Board) (events : List Event) (sent : List Sent) : Type 0 where
  pub passes : Passes old.told new.told events sent
  pub links : old.faults ≤ new.faults
  pub sends : (session : ℕ) → old.send_faults session ≤ new.send_faults session
  pub failed : Each (IsCounted old.send_faults new.send_faults) sent

-- so many events are to come
abbrev pub HasEvents : ℕ → Option Traffic → Type 0
HasEvents count None = ⊥
HasEvents count (Some traffic) = count ≤ length traffic.coming

-- at most so many events were taken of it, and this was sent and closed
pub record TradesFew (count : ℕ) (old new : Board) : Type 0 where
  pub events : List Event
  pub told : List Sent
  pub few : length events ≤ count
  pub trades : Trades old new events told
