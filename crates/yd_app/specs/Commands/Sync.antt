-- What `sync` writes of an update: all that a client has of it once it is in step with a server, in the format of its file (own).
use Rattle.std.specs.Prelude.{◌≡◌, ℕ, false, List}
use Rattle.yd_ops.specs.Value.{UpdateValue}
use Rattle.yd_sync.specs.declared.fault.MessageFault.{MessageFault}
use Rattle.yd_hub.specs.Peer.{PeerState}
use Rattle.yd_hub.specs.Syncing.{done, refused}
use Rattle.yd_serving.specs.Syncing.{SyncLosesLink, Syncs}
use Rattle.yd_serving.specs.Updates.{SyncsUpdate, peer_with}
use Rattle.yd_ending.specs.Message.{refused_message_line}
use Rattle.yd_app.specs.Commands.Convert.{StandsAgain, converted_bytes}
use Rattle.yd_app.specs.Link.{Link}
use Rattle.yd_asking.specs.declared.format.Format.{Format}

-- the loop ended well in so many turns at most, and a step 2 was taken; the bytes are all that the client then has, in the format, and
-- stand for it again
pub record IsSynced (form : Format) (turns : ℕ) (update : UpdateValue) (link : Link) (bytes : List ℕ) : Type 0 where
  pub reply : UpdateValue
  pub synced : SyncsUpdate turns update reply link.before link.now
  pub bytes_are : bytes ≡ converted_bytes form reply
  pub again : StandsAgain form bytes reply

-- the loop ended at a message that is none, and this is its line
abbrev pub IsRefusedMessage : ℕ → UpdateValue → Link → List ℕ → Type 0
IsRefusedMessage turns update link line =
    (peer : PeerState) × (number : ℕ) × (fault : MessageFault) × Syncs turns (peer_with update) peer link.before link.now (refused number fault) × (line ≡ refused_message_line number fault)

-- the loop ended otherwise, and no step 2 was taken
abbrev pub LacksStep2 : ℕ → UpdateValue → Link → Type 0
LacksStep2 turns update link = (peer : PeerState) × Syncs turns (peer_with update) peer link.before link.now done × (peer.taken_step2 ≡ false)

-- the board did not start, or had no event where the loop wanted one
abbrev pub LosesClient : ℕ → UpdateValue → Link → Type 0
LosesClient turns update link = (peer : PeerState) × SyncLosesLink turns (peer_with update) peer link.before link.now
