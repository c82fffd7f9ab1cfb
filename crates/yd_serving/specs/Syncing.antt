-- A client's loop over a board: until it is in step, its session ends, a message is refused, or so many turns are taken (own).
use Rattle.std.specs.Prelude.{◌≡◌, ◌≤◌, ◌⊎◌, ℕ, List, [], length, Some, Result, Ok, Err}
use Rattle.yd_world.specs.Faults.{Rose}
use Rattle.yd_world.specs.Traffic.{Traffic}
use Rattle.yd_world.specs.declared.board.Sent.{Sent}
use Rattle.yd_world.specs.declared.fault.Outage.{Outage}
use Rattle.yd_world.specs.declared.fault.Outage.TheVariants as outages
use Rattle.yd_sync.specs.MessageReading.{message_reading}
use Rattle.yd_sync.specs.MessageWriting.{bytes_of_message}
use Rattle.yd_hub.specs.Peer.{PeerEventValue, PeerState}
use Rattle.yd_hub.specs.Serving.{Turn}
use Rattle.yd_hub.specs.Syncing.{Ending, Synced, done, no_link, refused, synced}
use Rattle.yd_serving.specs.declared.fault.SyncFault.{SyncFault}
use Rattle.yd_serving.specs.declared.fault.SyncFault.TheVariants.{NoLink, NoMemory, Refused}
use Rattle.yd_serving.specs.Answering.{AnswersPeer}
use Rattle.yd_serving.specs.Board.{Board, Trades, TradesFew}
use Rattle.yd_serving.specs.Serving.{events_of}

-- what comes of a loop of at most so many turns that begins with this peer
abbrev pub synced_in : ℕ → PeerState → List Turn → Synced
synced_in count peer turns = synced message_reading bytes_of_message count 0 peer turns

-- the loop took just these turns of the board, led the peer to this, told the board what comes of that and nothing else, and ended so
pub record Syncs (count : ℕ) (peer peer_now : PeerState) (old new : Board) (ending : Ending) : Type 0 where
  pub turns : List Turn
  pub events : List PeerEventValue
  pub told : List Sent
  pub answered : AnswersPeer peer turns
  pub outcome : synced_in count peer turns ≡ record { peer = peer_now; events = events; taken = length turns; told = told; ending = ending }
  pub few : length turns ≤ count
  pub trades : Trades old new (events_of turns) told

-- the board did not start: nothing was done
pub record StartsNot (peer peer_now : PeerState) (old new : Board) : Type 0 where
  pub stays : peer_now ≡ peer
  pub trades : Trades old new [] []

-- the board did not start, or had no event where the loop wanted one, and its count of faults rose
pub record SyncLosesLink (count : ℕ) (peer peer_now : PeerState) (old new : Board) : Type 0 where
  pub synced : Syncs count peer peer_now old new no_link ⊎ StartsNot peer peer_now old new
  pub rose : Rose old.faults new.faults

-- one of these; or memory ended, where it is said how many events were taken at most
abbrev pub SyncsOn : ℕ → PeerState → PeerState → Board → Board → Result (Unit {0}) SyncFault → Type 0
SyncsOn count peer peer_now old new (Ok x) = Syncs count peer peer_now old new done
SyncsOn count peer peer_now old new (Err (Refused number fault)) = Syncs count peer peer_now old new (refused number fault)
SyncsOn count peer peer_now old new (Err NoLink) = SyncLosesLink count peer peer_now old new
SyncsOn count peer peer_now old new (Err NoMemory) = TradesFew count old new

-- why the loop ends where the board failed
abbrev pub sync_fault : Outage → SyncFault
sync_fault outages.NoMemory = NoMemory
sync_fault outages.Failed = NoLink

-- the board did not fail
abbrev pub IsSyncLinked : {X : Type 0} → Result X SyncFault → Type 0
IsSyncLinked (Ok x) = Unit {0}
IsSyncLinked (Err NoMemory) = Unit {0}
IsSyncLinked (Err (Refused number fault)) = Unit {0}
IsSyncLinked (Err NoLink) = ⊥

-- over one network that tells, a loop ends in one way and leads its peer to one state, whatever the peer's replica answers
abbrev pub SyncEndsOnce : Type 0
SyncEndsOnce = (count : ℕ) (peer one other : PeerState) (traffic : Traffic) (old new : Board) (ending another : Ending) → old.told ≡ Some traffic →
    Syncs count peer one old new ending → Syncs count peer other old new another → (one ≡ other) × (ending ≡ another)
