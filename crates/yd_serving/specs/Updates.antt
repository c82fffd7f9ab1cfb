-- An update that is served, or brought in step: what server and client have of it at their end (own).
use Rattle.std.specs.Prelude.{◌≡◌, ℕ, true, false, List, [], ◌∷◌, Option, Some, None, Result, Ok, Err}
use Rattle.yd_ids.specs.declared.id.Span.{Span}
use Rattle.yd_ids.specs.Vector.{clock_of}
use Rattle.yd_ops.specs.declared.updates.Update.{Update}
use Rattle.yd_ops.specs.Value.{UpdateValue}
use Rattle.yd_ops.specs.View.{update_value}
use Rattle.yd_ops.specs.Received.{Received, received_set}
use Rattle.yd_grouping.specs.Merged.{reply_of}
use Rattle.yd_hub.specs.Hub.{HubState}
use Rattle.yd_hub.specs.OwnAnswers.{AreOwnDeletes}
use Rattle.yd_hub.specs.Peer.{PeerState}
use Rattle.yd_hub.specs.Syncing.{done, refused}
use Rattle.yd_serving.specs.declared.fault.ServeFault.{ServeFault}
use Rattle.yd_serving.specs.declared.fault.ServeFault.TheVariants as serves
use Rattle.yd_serving.specs.declared.fault.SyncFault.{SyncFault}
use Rattle.yd_serving.specs.declared.fault.SyncFault.TheVariants as syncs
use Rattle.yd_serving.specs.Board.{Board, TradesFew}
use Rattle.yd_serving.specs.Serving.{LosesLink, ServesAll}
use Rattle.yd_serving.specs.Syncing.{SyncLosesLink, Syncs}

-- a server that received the update; no session is open, and it knows of nobody
abbrev pub hub_with : UpdateValue → HubState
hub_with update = record { received = received_set (update ∷ []); sessions = []; table = [] }

-- a client that received the update, has no state of its own, and heard nothing yet
abbrev pub peer_with : UpdateValue → PeerState
peer_with update = record { received = received_set (update ∷ []); own = None; table = []; taken_step2 = false; answered_step1 = false }

-- the reply to the empty vector of one that received this, with the delete set of a document that it may have
pub record IsAllOf (r : Received) (reply : UpdateValue) : Type 0 where
  pub own : List Span
  pub deletes : AreOwnDeletes own r
  pub is : reply ≡ reply_of r own (clock_of [])

-- this hub was served for so many turns, and this is all that it then has
pub record ServesFrom (count : ℕ) (first : HubState) (reply : UpdateValue) (old new : Board) : Type 0 where
  pub hub : HubState
  pub served : ServesAll count first hub old new
  pub all : IsAllOf hub.received reply

-- so it was, or the board failed before that, or memory ended
abbrev pub ServesFromOn : ℕ → HubState → Board → Board → Result Update ServeFault → Type 0
ServesFromOn count first old new (Ok reply) = ServesFrom count first (update_value reply) old new
ServesFromOn count first old new (Err serves.NoLink) = (hub : HubState) × LosesLink count first hub old new
ServesFromOn count first old new (Err serves.NoMemory) = TradesFew count old new

-- the update was served for so many turns, and this is all that the server then has
abbrev pub ServesUpdate : ℕ → UpdateValue → UpdateValue → Board → Board → Type 0
ServesUpdate count update reply old new = ServesFrom count (hub_with update) reply old new

-- so it was, or the board failed before that, or memory ended
abbrev pub ServesUpdateOn : ℕ → UpdateValue → Board → Board → Result Update ServeFault → Type 0
ServesUpdateOn count update old new result = ServesFromOn count (hub_with update) old new result

-- a loop of this peer ended well, a step 2 was taken, and this is all that the peer then has
pub record SyncsFrom (count : ℕ) (first : PeerState) (reply : UpdateValue) (old new : Board) : Type 0 where
  pub peer : PeerState
  pub synced : Syncs count first peer old new done
  pub taken : peer.taken_step2 ≡ true
  pub all : IsAllOf peer.received reply

-- so it did; or it ended without a step 2, or at a message that is refused; or the board failed before that, or memory ended
abbrev pub SyncsFromOn : ℕ → PeerState → Board → Board → Result (Option Update) SyncFault → Type 0
SyncsFromOn count first old new (Ok (Some reply)) = SyncsFrom count first (update_value reply) old new
SyncsFromOn count first old new (Ok None) = (peer : PeerState) × Syncs count first peer old new done × (peer.taken_step2 ≡ false)
SyncsFromOn count first old new (Err (syncs.Refused number fault)) = (peer : PeerState) × Syncs count first peer old new (refused number fault)
SyncsFromOn count first old new (Err syncs.NoLink) = (peer : PeerState) × SyncLosesLink count first peer old new
SyncsFromOn count first old new (Err syncs.NoMemory) = TradesFew count old new

-- a loop of a client with the update ended well, a step 2 was taken, and this is all that the client then has
abbrev pub SyncsUpdate : ℕ → UpdateValue → UpdateValue → Board → Board → Type 0
SyncsUpdate count update reply old new = SyncsFrom count (peer_with update) reply old new

-- so it did; or it ended in one of the other ways
abbrev pub SyncsUpdateOn : ℕ → UpdateValue → Board → Board → Result (Option Update) SyncFault → Type 0
SyncsUpdateOn count update old new result = SyncsFromOn count (peer_with update) old new result
