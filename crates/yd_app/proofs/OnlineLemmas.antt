-- What commands make over a network, as the code finds it.
use Rattle.std.proofs.Common.{◌≡◌, ◌<◌, ◌≤◌, ◌⊎◌, ◌∙◌, ℕ, List, [], length, Option, Some, None, Result, Ok, Err, IsErr, IsErrAnd, refl, sym, ap, subst, inl, inr, arith}
use Rattle.std.proofs.lemmas.List.{length-map}
use Rattle.std.specs.Global.{Vec}
use Rattle.yd_hub.specs.Hub.{HubState}
use Rattle.yd_hub.specs.Peer.{PeerState}
use Rattle.yd_hub.specs.Serving.{Turn, told_served}
use Rattle.yd_hub.specs.Syncing.{no_link}
use Rattle.yd_ops.specs.Value.{UpdateValue}
use Rattle.yd_ops.specs.View.{update_value}
use Rattle.yd_ops.specs.declared.updates.Update.{Update}
use Rattle.yd_sync.specs.MessageReading.{message_reading}
use Rattle.yd_sync.specs.MessageWriting.{bytes_of_message}
use Rattle.yd_world.specs.Traffic.{Traffic}
use Rattle.yd_world.specs.Shelf.{Shelf}
use Rattle.yd_files.specs.Files.{File}
use Rattle.yd_files.specs.Counts.{Count}
use Rattle.yd_files.specs.Reading.{ReadsCalmly}
use Rattle.yd_files.specs.Verdict.{NoneIsMissing}
use Rattle.yd_app.specs.Stopping.{ReadsAsked}
use Rattle.yd_serving.proofs.UpdateLemmas.{served_few, synced_few}
use Rattle.yd_serving.specs.Board.{Board, TradesFew}
use Rattle.yd_serving.specs.Reason.{reason_of}
use Rattle.yd_serving.specs.Serving.{LosesLink, events_of}
use Rattle.yd_serving.specs.Syncing.{SyncLosesLink}
use Rattle.yd_serving.specs.Updates.{ServesUpdateOn, SyncsUpdateOn, hub_with, peer_with}
use Rattle.yd_serving.specs.declared.fault.ServeFault.{ServeFault}
use Rattle.yd_serving.specs.declared.fault.ServeFault.TheVariants as serve_faults
use Rattle.yd_serving.specs.declared.fault.SyncFault.{SyncFault}
use Rattle.yd_serving.specs.declared.fault.SyncFault.TheVariants as sync_faults
use Rattle.yd_hub.specs.Syncing.{done, refused}
use Rattle.yd_ending.specs.declared.stop.Stop.{Stop}
use Rattle.yd_asking.proofs.WordLemmas.{asks_same}
use Rattle.yd_asking.specs.Command.{Command, serve, sync}
use Rattle.yd_app.specs.Link.{Link}
use Rattle.yd_app.specs.Online.{HasItsTurns, HasTurns, LeavesBoard, OfInputs, TradesTurns}
use Rattle.yd_asking.specs.Words.{Asks}

-- ---- how many events were taken

-- of so many turns there are so many events
few_events : (turns : List Turn) (count : ℕ) → length turns ≤ count → length (events_of turns) ≤ count
few_events turns count few = let all : length (events_of turns) ≡ length turns = length-map turns (λ (turn : Turn). turn.event) in omega (arith, all, few)

-- a loop of a server
lost_few : (count : ℕ) (hub hub_now : HubState) (a b : Board) → LosesLink count hub hub_now a b → TradesFew count a b
lost_few count hub hub_now a b so = record {
  events = events_of so.turns;
  told = told_served message_reading bytes_of_message reason_of hub so.turns;
  few = few_events so.turns count (within so.few);
  trades = so.served.trades;
}
  where
    within : (length so.turns < count) ⊎ (so.turns ≡ []) → length so.turns ≤ count
    within (inl less) = omega (arith, less)
    within (inr none) = let no_turns : length so.turns ≡ 0 = ap (λ (turns : List Turn). length turns) none in omega (arith, no_turns)

pub served_within : (count : ℕ) (update : UpdateValue) (a b : Board) (result : Result Update ServeFault) → ServesUpdateOn count update a b result → TradesFew count a b
served_within count update a b (Ok reply) so = served_few count (hub_with update) so.hub a b so.served
served_within count update a b (Err serve_faults.NoLink) so = lost_few count (hub_with update) so.0 a b so.1
served_within count update a b (Err serve_faults.NoMemory) so = so

-- and of a client
missed_few : (count : ℕ) (peer peer_now : PeerState) (a b : Board) → SyncLosesLink count peer peer_now a b → TradesFew count a b
missed_few count peer peer_now a b so = elim so.synced [
  | inl synced ↦ synced_few count peer peer_now no_link a b synced
  | inr not ↦ record { events = []; told = []; few = omega arith; trades = not.trades }
]

pub synced_within : (count : ℕ) (update : UpdateValue) (a b : Board) (result : Result (Option Update) SyncFault) → SyncsUpdateOn count update a b result → TradesFew count a b
synced_within count update a b (Ok (Some reply)) so = synced_few count (peer_with update) so.peer done a b so.synced
synced_within count update a b (Ok None) so = synced_few count (peer_with update) so.0 done a b so.1
synced_within count update a b (Err (sync_faults.Refused number fault)) so = synced_few count (peer_with update) so.0 (refused number fault) a b so.1
synced_within count update a b (Err sync_faults.NoLink) so = missed_few count (peer_with update) so.0 a b so.1
synced_within count update a b (Err sync_faults.NoMemory) so = so

-- ---- what the words ask for

-- what was read calmly is what the words ask for
pub reads_asked : (words : List (List ℕ)) (command : Command) (files : List File) (told : Option Shelf) (reads : Count) → Asks words command files → ReadsCalmly told files reads → ReadsAsked words told reads
reads_asked words command files told reads asks calm other others asks_other is_told none =
    let same = asks_same words other command others files asks_other asks in calm is_told (subst (λ (fs : List File). NoneIsMissing told fs) same.1 none)

-- the turns that the words ask for are the command's
pub its_turns : (words : List (List ℕ)) (command : Command) (files : List File) (traffic : Option Traffic) → Asks words command files → HasItsTurns words traffic → HasTurns command traffic
its_turns words command files traffic asks has = has command files asks

-- what the command did with the board is what was done for the words
pub leaves_board : (Same : Type 0) (words : List (List ℕ)) (command : Command) (files : List File) (told : Option Shelf) (link : Link) → Asks words command files → Same ⊎ OfInputs told files (λ inputs. TradesTurns link command)
    → LeavesBoard Same words told link
leaves_board Same words command files told link asks (inl same) = inl same
leaves_board Same words command files told link asks (inr used) = inr (record { command = command; files = files; asks = asks; holds = used })
