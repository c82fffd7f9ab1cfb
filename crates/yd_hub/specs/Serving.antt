-- The loop of a server over what a board tells (own).
use Rattle.std.specs.Prelude.{◌≡◌, ◌<◌, ℕ, Bool, List, [], ◌∷◌, ◌++◌, map, length, Result}
use Rattle.yd_world.specs.declared.board.Sent.{Sent}
use Rattle.yd_world.specs.declared.event.Event.{Event}
use Rattle.yd_world.specs.declared.event.What.TheVariants.{Closed}
use Rattle.yd_world.specs.Traffic.{Traffic}
use Rattle.yd_sync.specs.declared.fault.MessageFault.{MessageFault}
use Rattle.yd_sync.specs.Message.{MessageValue}
use Rattle.yd_hub.specs.declared.action.CloseCause.{CloseCause}
use Rattle.yd_hub.specs.Answers.{Answers, AreAnswersOf, TellsNews}
use Rattle.yd_hub.specs.Hub.{HubState, hub_actions, hub_after}
use Rattle.yd_hub.specs.Carrying.{Settled, carried_out}

-- one turn: the event that the board told, what the replica answered before it, and which of the sends failed
pub record Turn : Type 0 where
  pub event : Event
  pub answers : Answers
  pub fails : List Bool

-- how bytes are read, how messages are written, and why sessions are closed
module _ (read : List ℕ → Result MessageValue MessageFault) (write : MessageValue → List ℕ) (reason : CloseCause → List ℕ) where
  abbrev pub turn_after : HubState → Turn → Settled
  turn_after hub turn = carried_out write reason (hub_after read hub turn.event) (hub_actions read turn.answers hub turn.event) turn.fails

  -- a session ended, at a moment
  abbrev pub closed_at : ℕ → ℕ → Event
  closed_at now session = record { now = now; what = Closed (record { 0 = session }) }

  -- the events that the hub got in a turn: that of the board, and Closed of the sessions that failed, at its moment
  abbrev pub events_of_turn : HubState → Turn → List Event
  events_of_turn hub turn = turn.event ∷ map (closed_at turn.event.now) (turn_after hub turn).closed

  -- the hub after turns
  abbrev pub hub_served : HubState → List Turn → HubState
  hub_served hub [] = hub
  hub_served hub (turn ∷ turns) = hub_served (turn_after hub turn).hub turns

  -- all events that it got
  abbrev pub events_served : HubState → List Turn → List Event
  events_served hub [] = []
  events_served hub (turn ∷ turns) = events_of_turn hub turn ++ events_served (turn_after hub turn).hub turns

  -- all that the board was told
  abbrev pub told_served : HubState → List Turn → List Sent
  told_served hub [] = []
  told_served hub (turn ∷ turns) = (turn_after hub turn).outcome.told ++ told_served (turn_after hub turn).hub turns

  -- in each turn the answers are those of a replica that received what the hub has
  abbrev pub AreAnswered : HubState → List Turn → Type 0
  AreAnswered hub [] = Unit {0}
  AreAnswered hub (turn ∷ turns) = AreAnswersOf hub.received turn.answers × TellsNews hub.received turn.answers × AreAnswered (turn_after hub turn).hub turns

  -- a board that tells was served so: the turns are of the events that it gave and the sends that failed, with the answers of
  -- a replica that received what the hub has
  pub record HasServed (old new : Traffic) (hub served : HubState) (turns : List Turn) : Type 0 where
    pub coming : old.coming ≡ map (λ (turn : Turn). turn.event) turns ++ new.coming
    pub sent : new.sent ≡ old.sent ++ told_served hub turns
    pub answered : AreAnswered hub turns
    pub state : served ≡ hub_served hub turns

  -- of so many turns: all were taken, or the board failed and fewer were
  pub data Serves (turns : ℕ) (old new : Traffic) (hub served : HubState) : Type 0 where
    all_taken : (taken : List Turn) → HasServed old new hub served taken → length taken ≡ turns → Serves turns old new hub served
    link_failed : (taken : List Turn) → HasServed old new hub served taken → length taken < turns → Serves turns old new hub served
