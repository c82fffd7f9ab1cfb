-- What a replica answers at a moment, as far as the laws of synchronisation need it; the update of a reply is any that has what they need (own).
use Rattle.std.specs.Prelude.{◌≡◌, ◌≤◌, ◌⊎◌, ◌↔◌, ℕ, Bool, true, List}
use Rattle.yd_words.specs.Member.{IsIn}
use Rattle.yd_ids.specs.declared.id.Client.{Client}
use Rattle.yd_ids.specs.declared.id.Id.{Id}
use Rattle.yd_ids.specs.declared.id.Span.{Span}
use Rattle.yd_ids.specs.Set.{HasId}
use Rattle.yd_ids.specs.Vector.{clock_of}
use Rattle.yd_ops.specs.Operation.{Operation, operations_of, level_of}
use Rattle.yd_ops.specs.Value.{UpdateValue}
use Rattle.yd_ops.specs.Valid.{IsValidUpdate}
use Rattle.yd_ops.specs.Received.{Received}
use Rattle.yd_ops.specs.Deletes.{deletes_of}
use Rattle.yd_ops.specs.ReceivedLaw.{IsCovered}
use Rattle.yd_meaning.specs.Held.{held_set, held_clock}

-- its state vector; the ids that it knows as deleted, waiting ones too; the update that answers a vector; whether an update
-- brings it something
pub record Answers : Type 0 where
  pub vector : List (Client × ℕ)
  pub deletes : List Span
  pub reply : List (Client × ℕ) → UpdateValue
  pub is_news : UpdateValue → Bool

-- the update has an operation whose id was not received or which says less than the received one, or deletes an id that is
-- not known as deleted
abbrev pub BringsNews : Received → List Span → UpdateValue → Type 0
BringsNews r deletes update = ((o : Operation) × IsIn o (operations_of update) × (IsCovered r.operations o → ⊥))
    ⊎ ((x : Id) × HasId (deletes_of update) x × (HasId deletes x → ⊥))

-- they are the answers of a replica that received this: its document may know more ids as deleted than it was told
pub record AreAnswersOf (r : Received) (answers : Answers) : Type 0 where
  pub counts : (client : ℕ) → clock_of answers.vector client ≡ held_clock (held_set r.operations) client
  pub named : (x : Id) → HasId r.deletes x → HasId answers.deletes x
  pub valid : (vector : List (Client × ℕ)) → IsValidUpdate (answers.reply vector)
  pub sent : (vector : List (Client × ℕ)) (o : Operation) → IsIn o r.operations → clock_of vector o.id.client.0 ≤ o.id.clock →
      IsIn o (operations_of (answers.reply vector))
  pub only : (vector : List (Client × ℕ)) (o : Operation) → IsIn o (operations_of (answers.reply vector)) → IsIn o r.operations
  pub behind : (vector : List (Client × ℕ)) (o : Operation) → IsIn o (operations_of (answers.reply vector)) →
      (clock_of vector o.id.client.0 ≤ o.id.clock) ⊎ (level_of o.content ≡ 2)
  pub deleted : (vector : List (Client × ℕ)) (x : Id) → HasId (deletes_of (answers.reply vector)) x ↔ HasId answers.deletes x

-- an update is news to it exactly where it brings something
abbrev pub TellsNews : Received → Answers → Type 0
TellsNews r answers = (update : UpdateValue) → answers.is_news update ≡ true ↔ BringsNews r answers.deletes update
