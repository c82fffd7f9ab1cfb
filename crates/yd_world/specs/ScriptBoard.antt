-- What a board with a script is: the events to come, what was sent and closed, and its plan (own).
use Rattle.std.specs.Prelude.{ℕ, ◌-◌, ◌^◌, min, Bool, true, false, ◌&&◌, ◌==◌, List, [], ◌∷◌}
use Rattle.std.specs.List.{count_by}
use Rattle.yd_world.specs.declared.board.Sent.{Sent}
use Rattle.yd_world.specs.declared.board.Sent.TheVariants.{Message, Close}
use Rattle.yd_world.specs.declared.event.Event.{Event}
use Rattle.yd_world.specs.Plan.{PlanState, no_calls}
use Rattle.yd_world.specs.Traffic.{Traffic}

-- the events to come, what was sent and closed, and the plan
pub record BoardState : Type 0 where
  pub coming : List Event
  pub sent : List Sent
  pub plan : PlanState

-- no event, nothing sent, and no call that is to fail
abbrev pub no_script : BoardState
no_script = record { coming = []; sent = []; plan = no_calls }

-- what the board tells
abbrev pub traffic_of : BoardState → Traffic
traffic_of board = record { coming = board.coming; sent = board.sent }

-- no event is to come
abbrev pub is_used_up : List Event → Bool
is_used_up [] = true
is_used_up (event ∷ later) = false

-- a message to the session, whose sending failed
abbrev pub is_failed_send : ℕ → Sent → Bool
is_failed_send session (Message to bytes failed) = failed && (to.0 == session)
is_failed_send session (Close to reason) = false

-- how many sends to the session failed, and at most 2^64-1
abbrev pub failed_sends : List Sent → ℕ → ℕ
failed_sends sent session = min (count_by (is_failed_send session) sent) (2 ^ 64 - 1)
