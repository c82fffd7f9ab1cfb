-- One turn of a client: what happened as its event, and the messages that answer it (own).
use Rattle.std.specs.Prelude.{◌≡◌, ℕ, Bool, true, false, List, [], ◌∷◌, Result, Ok, Err}
use Rattle.yd_world.specs.Faults.{Rose}
use Rattle.yd_world.specs.declared.board.Sent.{Sent}
use Rattle.yd_sync.specs.Message.{MessageValue}
use Rattle.yd_sync.specs.MessageReading.{message_reading}
use Rattle.yd_sync.specs.MessageWriting.{bytes_of_message}
use Rattle.yd_hub.specs.Answers.{Answers}
use Rattle.yd_hub.specs.Peer.{PeerEventValue, PeerState, peer_after, peer_answer}
use Rattle.yd_hub.specs.Serving.{Turn}
use Rattle.yd_hub.specs.Syncing.{PeerTurn, Synced, behind, done, ended, event_done, of_close, of_event, of_other, peer_after_turn, peer_turn, refused, said, turn_done}
use Rattle.yd_machines.specs.PeerStep.{IsProperEvent, event_value}
use Rattle.yd_machines.specs.declared.fault.PeerFault.{PeerFault}
use Rattle.yd_machines.specs.declared.fault.PeerFault.TheVariants as faults
use Rattle.yd_serving.specs.declared.hearing.Heard.{Heard}
use Rattle.yd_serving.specs.declared.hearing.Heard.TheVariants.{Close, Event, Nothing}
use Rattle.yd_serving.specs.declared.fault.SyncFault.{SyncFault}
use Rattle.yd_serving.specs.declared.fault.SyncFault.TheVariants.{NoLink, NoMemory, Refused}
use Rattle.yd_serving.specs.Answering.{HasAnswers}
use Rattle.yd_serving.specs.Board.{Board, Trades, TradesFew}
use Rattle.yd_serving.specs.Syncing.{StartsNot}

-- what a peer gets of what happened, as plain data
abbrev pub heard_value : Heard → PeerTurn
heard_value Nothing = of_other
heard_value Close = of_close
heard_value (Event event) = of_event (event_value event)

-- an event that it gets is one that a step takes
abbrev pub IsProperHeard : Heard → Type 0
IsProperHeard Nothing = Unit {0}
IsProperHeard Close = Unit {0}
IsProperHeard (Event event) = IsProperEvent event

-- messages went out, with these outcomes of the sends: this was told, and whether a send failed
pub record Says (messages : List MessageValue) (failed : Bool) (old new : Board) : Type 0 where
  pub fails : List Bool
  pub told : List Sent
  pub outcome : said message_reading bytes_of_message messages fails ≡ record { told = told; failed = failed }
  pub trades : Trades old new [] told

-- so they did, or memory ended within them
abbrev pub SaysOn : {E : Type 0} → List MessageValue → Board → Board → Result Bool E → Type 0
SaysOn messages old new (Ok failed) = Says messages failed old new
SaysOn messages old new (Err e) = TradesFew 0 old new

-- the peer got an event, so many messages having come, and what answers it was told; behind it comes `later`
pub record Exchanges (count : ℕ) (event : PeerEventValue) (peer peer_now : PeerState) (old new : Board) (later : (PeerState → Synced) → Synced) : Type 0 where
  pub answers : Answers
  pub fails : List Bool
  pub told : List Sent
  pub are : HasAnswers peer.received answers
  pub outcome : (rest : PeerState → Synced) → event_done message_reading bytes_of_message count peer event (peer_answer message_reading answers peer event) fails rest
      ≡ behind (event ∷ []) told (later rest)
  pub state : peer_now ≡ peer_after message_reading peer event
  pub trades : Trades old new [] told

-- the loop goes on, or ends as a send failed or as the message is refused, or memory ended
abbrev pub ExchangesOn : ℕ → PeerEventValue → PeerState → PeerState → Board → Board → Result Bool SyncFault → Type 0
ExchangesOn count event peer peer_now old new (Ok false) = Exchanges count event peer peer_now old new (λ rest. rest peer_now)
ExchangesOn count event peer peer_now old new (Ok true) = Exchanges count event peer peer_now old new (λ rest. ended peer_now done)
ExchangesOn count event peer peer_now old new (Err (Refused number fault)) = Exchanges count event peer peer_now old new (λ rest. ended peer_now (refused number fault))
ExchangesOn count event peer peer_now old new (Err NoLink) = ⊥
ExchangesOn count event peer peer_now old new (Err NoMemory) = TradesFew 0 old new

-- what a refusal does: bytes that are no message end the loop, so many messages having come
abbrev pub after_refusal : ℕ → PeerFault → Result Bool SyncFault
after_refusal count faults.NoMemory = Err NoMemory
after_refusal count (faults.Bad fault) = Err (Refused count fault)
after_refusal count faults.ClockFull = Ok false

-- a turn was taken, so many messages having come before it; behind it comes `later`
pub record TakesTurn (heard : ℕ) (peer peer_now : PeerState) (old new : Board) (later : (ℕ → PeerState → Synced) → Synced) : Type 0 where
  pub turn : Turn
  pub events : List PeerEventValue
  pub told : List Sent
  pub are : HasAnswers peer.received turn.answers
  pub outcome : (rest : ℕ → PeerState → Synced) → turn_done message_reading bytes_of_message heard peer turn (peer_turn turn.event.now turn.event.what) rest
      ≡ behind events told (later rest)
  pub state : peer_now ≡ peer_after_turn message_reading bytes_of_message peer (peer_turn turn.event.now turn.event.what)
  pub trades : Trades old new (turn.event ∷ []) told

-- the loop goes on or ends, or the board had no event, or memory ended
abbrev pub TakesTurnOn : ℕ → ℕ → PeerState → PeerState → Board → Board → Result Bool SyncFault → Type 0
TakesTurnOn heard heard_now peer peer_now old new (Ok false) = TakesTurn heard peer peer_now old new (λ rest. rest heard_now peer_now)
TakesTurnOn heard heard_now peer peer_now old new (Ok true) = TakesTurn heard peer peer_now old new (λ rest. ended peer_now done)
TakesTurnOn heard heard_now peer peer_now old new (Err (Refused number fault)) = TakesTurn heard peer peer_now old new (λ rest. ended peer_now (refused number fault))
TakesTurnOn heard heard_now peer peer_now old new (Err NoLink) = StartsNot peer peer_now old new × Rose old.faults new.faults
TakesTurnOn heard heard_now peer peer_now old new (Err NoMemory) = TradesFew 1 old new
