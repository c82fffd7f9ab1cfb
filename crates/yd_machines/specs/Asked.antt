-- What a replica answers at a moment: what it received decides it, and the delete set of its own document.
use Rattle.std.specs.Prelude.{ℕ, List}
use Rattle.yd_ids.specs.declared.id.Client.{Client}
use Rattle.yd_ids.specs.Set.{AreMaximal}
use Rattle.yd_ops.specs.ReceivedLaw.{IsReceived}
use Rattle.yd_grouping.specs.Groupable.{AreGroupable}
use Rattle.yd_doc.specs.Kept.{Kept, own_deletes, received_of}
use Rattle.yd_hub.specs.Answers.{Answers}
use Rattle.yd_hub.specs.OwnAnswers.{AreOwnDeletes, CanAnswer, answers_of}

-- its answers, with a state vector
abbrev pub answers_in : Kept → List (Client × ℕ) → Answers
answers_in replica vector = answers_of (received_of replica) vector (own_deletes replica)

-- the vector counts what the replica holds, so that it answers as the laws of synchronisation ask
-- for
abbrev pub IsVectorOf : Kept → List (Client × ℕ) → Type 0
IsVectorOf replica vector = CanAnswer (received_of replica) vector (own_deletes replica)

-- what a replica keeps is sound: so it can answer with each vector that counts what it holds
pub record IsAnswering (replica : Kept) : Type 0 where
  pub received : IsReceived (received_of replica)
  pub groupable : AreGroupable (received_of replica).operations
  pub deletes : AreOwnDeletes (own_deletes replica) (received_of replica)
  pub maximal : AreMaximal (own_deletes replica)
