-- A hub that is served and a peer that is brought in step, from what they begin with; an update likewise.
use Rattle.std.proofs.Common.{◌≡◌, ◌≤◌, ℕ, true, false, List, [], ◌∷◌, length, Option, Some, None, Result, Ok, Err, refl, sym, ap, ◌∙◌, subst, arith}
use Rattle.std.proofs.lemmas.List.{length-map}
use Rattle.std.proofs.lemmas.Result.{err_from_is_err_and}
use Rattle.std.specs.Result.{IsErrAnd}
use Rattle.yd_ops.specs.declared.updates.Update.{Update}
use Rattle.yd_ops.specs.Value.{UpdateValue}
use Rattle.yd_ops.specs.View.{update_value}
use Rattle.yd_ops.specs.Received.{Received}
use Rattle.yd_hub.specs.Hub.{HubState}
use Rattle.yd_hub.specs.Peer.{PeerState}
use Rattle.yd_hub.specs.Serving.{Turn, told_served}
use Rattle.yd_hub.specs.Syncing.{Ending, done, refused}
use Rattle.yd_sync.specs.MessageReading.{message_reading}
use Rattle.yd_sync.specs.MessageWriting.{bytes_of_message}
use Rattle.yd_serving.specs.declared.fault.ServeFault.{ServeFault}
use Rattle.yd_serving.specs.declared.fault.ServeFault.TheVariants as serves
use Rattle.yd_serving.specs.declared.fault.SyncFault.{SyncFault}
use Rattle.yd_serving.specs.declared.fault.SyncFault.TheVariants as syncs
use Rattle.yd_serving.specs.Board.{Board, TradesFew}
use Rattle.yd_serving.specs.Reason.{reason_of}
use Rattle.yd_serving.specs.Serving.{IsLinked, ServesAll, ServesOn, events_of}
use Rattle.yd_serving.specs.Syncing.{IsSyncLinked, Syncs, SyncsOn}
use Rattle.yd_serving.specs.Updates.{IsAllOf, ServesFromOn, ServesUpdateOn, SyncsFromOn, SyncsUpdateOn, hub_with, peer_with}
use Rattle.yd_serving.proofs.BoardLemmas.{trades_none}

-- ---- memory ended

pub few_none : (count : ℕ) (b : Board) → TradesFew count b b
few_none count b = record { events = []; told = []; few = omega arith; trades = trades_none b }

-- before the loop, or behind it
pub serves_few : (count : ℕ) (first : HubState) (a b : Board) (result : Result Update ServeFault) → IsErrAnd result (λ fault. fault ≡ serves.NoMemory) → TradesFew count a b →
    ServesFromOn count first a b result
serves_few count first a b result is few = let p = err_from_is_err_and result is in rw (p.1, p.2) few

pub syncs_few : (count : ℕ) (first : PeerState) (a b : Board) (result : Result (Option Update) SyncFault) → IsErrAnd result (λ fault. fault ≡ syncs.NoMemory) → TradesFew count a b →
    SyncsFromOn count first a b result
syncs_few count first a b result is few = let p = err_from_is_err_and result is in rw (p.1, p.2) few

pub serves_no_memory : {X : Type 0} (result : Result X ServeFault) → IsErrAnd result (λ fault. fault ≡ serves.NoMemory) → IsLinked result
serves_no_memory result is = let p = err_from_is_err_and result is in rw (p.1, p.2) tt

pub syncs_no_memory : {X : Type 0} (result : Result X SyncFault) → IsErrAnd result (λ fault. fault ≡ syncs.NoMemory) → IsSyncLinked result
syncs_no_memory result is = let p = err_from_is_err_and result is in rw (p.1, p.2) tt

many : (turns : List Turn) (count : ℕ) → length turns ≤ count → length (events_of turns) ≤ count
many turns count few = let all : length (events_of turns) ≡ length turns = length-map turns (λ (turn : Turn). turn.event) in omega (arith, all, few)

-- all turns were served, and then memory ended
pub served_few : (count : ℕ) (hub hub_now : HubState) (a b : Board) → ServesAll count hub hub_now a b → TradesFew count a b
served_few count hub hub_now a b so = record {
  events = events_of so.turns;
  told = told_served message_reading bytes_of_message reason_of hub so.turns;
  few = many so.turns count (omega (arith, so.all));
  trades = so.served.trades;
}

pub synced_few : (count : ℕ) (peer peer_now : PeerState) (ending : Ending) (a b : Board) → Syncs count peer peer_now a b ending → TradesFew count a b
synced_few count peer peer_now ending a b so = record {
  events = events_of so.turns;
  told = so.told;
  few = many so.turns count so.few;
  trades = so.trades;
}

-- ---- the loop ended with an error

pub serve_ends : (count : ℕ) (first hub : HubState) (a b : Board) (e : ServeFault) (result : Result Update ServeFault) → IsErrAnd result (λ fault. fault ≡ e) →
    ServesOn count first hub a b (Err e) → ServesFromOn count first a b result
serve_ends count first hub a b serves.NoLink result is so = let p = err_from_is_err_and result is in rw (p.1, p.2) (hub, so)
serve_ends count first hub a b serves.NoMemory result is so = let p = err_from_is_err_and result is in
    rw (p.1, p.2) (record { events = events_of so.turns; told = so.told; few = many so.turns count so.few; trades = so.trades })

pub serve_linked : (e : ServeFault) (result : Result Update ServeFault) → IsErrAnd result (λ fault. fault ≡ e) → IsLinked {X = Unit {0}} (Err e) → IsLinked result
serve_linked serves.NoMemory result is linked = serves_no_memory result is
serve_linked serves.NoLink result is linked = absurd linked

pub sync_ends : (count : ℕ) (first peer : PeerState) (a b : Board) (e : SyncFault) (result : Result (Option Update) SyncFault) → IsErrAnd result (λ fault. fault ≡ e) →
    SyncsOn count first peer a b (Err e) → SyncsFromOn count first a b result
sync_ends count first peer a b syncs.NoLink result is so = let p = err_from_is_err_and result is in rw (p.1, p.2) (peer, so)
sync_ends count first peer a b (syncs.Refused number fault) result is so = let p = err_from_is_err_and result is in rw (p.1, p.2) (peer, so)
sync_ends count first peer a b syncs.NoMemory result is so = let p = err_from_is_err_and result is in rw (p.1, p.2) so

pub sync_linked : (e : SyncFault) (result : Result (Option Update) SyncFault) → IsErrAnd result (λ fault. fault ≡ e) → IsSyncLinked {X = Unit {0}} (Err e) → IsSyncLinked result
sync_linked syncs.NoMemory result is linked = syncs_no_memory result is
sync_linked (syncs.Refused number fault) result is linked = let p = err_from_is_err_and result is in rw (p.1, p.2) tt
sync_linked syncs.NoLink result is linked = absurd linked

-- ---- it ended well

pub serve_answers : (count : ℕ) (reply : Update) (first hub : HubState) (r : Received) (a b : Board) → ServesAll count first hub a b → r ≡ hub.received → IsAllOf r (update_value reply) →
    ServesFromOn count first a b (Ok reply)
serve_answers count reply first hub r a b so are all = record { hub = hub; served = so; all = subst (λ (s : Received). IsAllOf s (update_value reply)) are all }

pub sync_answers : (count : ℕ) (reply : Update) (first peer : PeerState) (r : Received) (a b : Board) → Syncs count first peer a b done → peer.taken_step2 ≡ true → r ≡ peer.received →
    IsAllOf r (update_value reply) → SyncsFromOn count first a b (Ok (Some reply))
sync_answers count reply first peer r a b so taken are all = record { peer = peer; synced = so; taken = taken; all = subst (λ (s : Received). IsAllOf s (update_value reply)) are all }

-- ---- it began with an update

pub hub_begins : (count : ℕ) (update : UpdateValue) (r : Received) (hub : HubState) (a b : Board) (result : Result Update ServeFault) → hub ≡ record { received = r; sessions = []; table = [] } →
    r ≡ (hub_with update).received → ServesFromOn count hub a b result → ServesUpdateOn count update a b result
hub_begins count update r hub a b result is has so =
    let same : hub ≡ hub_with update = is ∙ ap (λ (s : Received). record { received = s; sessions = []; table = [] }) has in
    subst (λ (h : HubState). ServesFromOn count h a b result) same so

pub peer_begins : (count : ℕ) (update : UpdateValue) (r : Received) (peer : PeerState) (a b : Board) (result : Result (Option Update) SyncFault) →
    peer ≡ record { received = r; own = None; table = []; taken_step2 = false; answered_step1 = false } → r ≡ (peer_with update).received → SyncsFromOn count peer a b result →
    SyncsUpdateOn count update a b result
peer_begins count update r peer a b result is has so =
    let same : peer ≡ peer_with update = is ∙ ap (λ (s : Received). record { received = s; own = None; table = []; taken_step2 = false; answered_step1 = false }) has in
    subst (λ (q : PeerState). SyncsFromOn count q a b result) same so
