-- What a replica answers in the turns of a loop, exactly: with a vector that counts what it holds, and the delete set of its own document (own).
use Rattle.std.specs.Prelude.{◌≡◌, ℕ, List, [], ◌∷◌}
use Rattle.yd_ids.specs.declared.id.Client.{Client}
use Rattle.yd_ids.specs.declared.id.Span.{Span}
use Rattle.yd_ops.specs.Received.{Received}
use Rattle.yd_sync.specs.MessageReading.{message_reading}
use Rattle.yd_sync.specs.MessageWriting.{bytes_of_message}
use Rattle.yd_hub.specs.Answers.{Answers}
use Rattle.yd_hub.specs.OwnAnswers.{AreOwnDeletes, CanAnswer, answers_of}
use Rattle.yd_hub.specs.Hub.{HubState}
use Rattle.yd_hub.specs.Peer.{PeerState}
use Rattle.yd_hub.specs.Serving.{AreAnswered, Turn, turn_after}
use Rattle.yd_hub.specs.Syncing.{IsPeerAnswered, peer_after_turn, peer_turn}
use Rattle.yd_serving.specs.Reason.{reason_of}

-- these are the answers of a replica that received this, by the delete set of a document that it may have
pub record HasAnswers (r : Received) (answers : Answers) : Type 0 where
  pub vector : List (Client × ℕ)
  pub own : List Span
  pub can : CanAnswer r vector own
  pub deletes : AreOwnDeletes own r
  pub are : answers ≡ answers_of r vector own

-- in each turn of a server they are those of one that received what the hub then has
abbrev pub AnswersTurns : HubState → List Turn → Type 0
AnswersTurns hub [] = Unit {0}
AnswersTurns hub (turn ∷ turns) = HasAnswers hub.received turn.answers × AnswersTurns (turn_after message_reading bytes_of_message reason_of hub turn).hub turns

-- and in each turn of a client, of one that received what the peer then has
abbrev pub AnswersPeer : PeerState → List Turn → Type 0
AnswersPeer peer [] = Unit {0}
AnswersPeer peer (turn ∷ turns) = HasAnswers peer.received turn.answers
    × AnswersPeer (peer_after_turn message_reading bytes_of_message peer (peer_turn turn.event.now turn.event.what)) turns

-- so they are as the laws of synchronisation ask for
pub record AnswersAreRight : Type 0 where
  pub hub : (hub : HubState) (turns : List Turn) → AnswersTurns hub turns → AreAnswered message_reading bytes_of_message reason_of hub turns
  pub peer : (peer : PeerState) (turns : List Turn) → AnswersPeer peer turns → IsPeerAnswered message_reading bytes_of_message peer turns
