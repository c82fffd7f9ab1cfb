-- What a replica answers in a loop.
use Rattle.std.proofs.Common.{◌≡◌, ℕ, List, [], ◌∷◌, refl, sym, subst}
use Rattle.yd_ids.specs.declared.id.Client.{Client}
use Rattle.yd_ops.specs.Received.{Received}
use Rattle.yd_sync.specs.MessageReading.{message_reading}
use Rattle.yd_sync.specs.MessageWriting.{bytes_of_message}
use Rattle.yd_doc.specs.Kept.{Kept, own_deletes, received_of}
use Rattle.yd_hub.specs.Answers.{Answers, AreAnswersOf, TellsNews}
use Rattle.yd_hub.specs.Hub.{HubState}
use Rattle.yd_hub.specs.OwnAnswers.{AreOwnDeletes}
use Rattle.yd_hub.specs.Peer.{PeerState}
use Rattle.yd_hub.specs.Serving.{AreAnswered, Turn, turn_after}
use Rattle.yd_hub.specs.Syncing.{IsPeerAnswered, peer_after_turn, peer_turn}
use Rattle.yd_hub.proofs.AnswerLemmas.{are_answers, tells_news}
use Rattle.yd_machines.specs.Asked.{IsVectorOf, answers_in}
use Rattle.yd_serving.specs.Answering.{AnswersPeer, AnswersTurns, HasAnswers}
use Rattle.yd_serving.specs.Reason.{reason_of}

-- the vector counts what a replica holds, and its own delete set is that of its document
abbrev pub Speaks : Kept → List (Client × ℕ) → Type 0
Speaks replica vector = IsVectorOf replica vector × AreOwnDeletes (own_deletes replica) (received_of replica)

pub has_answers : (replica : Kept) (r : Received) (vector : List (Client × ℕ)) → r ≡ received_of replica → Speaks replica vector → HasAnswers r (answers_in replica vector)
has_answers replica r vector same speaks = subst (λ (s : Received). HasAnswers s (answers_in replica vector)) (sym same)
    (record { vector = vector; own = own_deletes replica; can = speaks.0; deletes = speaks.1; are = refl })

-- ---- as the laws ask for

right_answers : (r : Received) (answers : Answers) → HasAnswers r answers → AreAnswersOf r answers × TellsNews r answers
right_answers r answers has = (
  subst (λ (a : Answers). AreAnswersOf r a) (sym has.are) (are_answers r has.vector has.own has.can),
  subst (λ (a : Answers). TellsNews r a) (sym has.are) (tells_news r has.vector has.own has.can.received),
)

pub hub_right : (hub : HubState) (turns : List Turn) → AnswersTurns hub turns → AreAnswered message_reading bytes_of_message reason_of hub turns
hub_right hub [] all = tt
hub_right hub (turn ∷ turns) all =
    let right = right_answers hub.received turn.answers all.0 in (right.0, right.1, hub_right (turn_after message_reading bytes_of_message reason_of hub turn).hub turns all.1)

pub peer_right : (peer : PeerState) (turns : List Turn) → AnswersPeer peer turns → IsPeerAnswered message_reading bytes_of_message peer turns
peer_right peer [] all = tt
peer_right peer (turn ∷ turns) all =
    let right = right_answers peer.received turn.answers all.0 in
    (right.0, right.1, peer_right (peer_after_turn message_reading bytes_of_message peer (peer_turn turn.event.now turn.event.what)) turns all.1)
