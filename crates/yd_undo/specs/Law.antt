-- The laws of undo, as statements.
use Rattle.std.specs.Prelude.{◌≡◌, ◌↔◌, true, List, Option}
use Rattle.yd_words.specs.Each.{Each}
use Rattle.yd_words.specs.Member.{IsIn}
use Rattle.yd_ids.specs.declared.id.Id.{Id}
use Rattle.yd_ids.specs.declared.id.Span.{Span}
use Rattle.yd_ids.specs.Id.{IsSpan}
use Rattle.yd_ids.specs.Set.{HasId}
use Rattle.yd_ops.specs.Operation.{Operation, operations_of}
use Rattle.yd_ops.specs.Valid.{IsValidUpdate}
use Rattle.yd_ops.specs.Value.{UpdateValue}
use Rattle.yd_editing.specs.Basis.{Basis}
use Rattle.yd_editing.specs.Made.{removed_by}
use Rattle.yd_editing.specs.Refused.{refusal_of, first_of_steps, pair_refusal, waiting_refusal, clock_refusal}
use Rattle.yd_editing.specs.Step.{Step, Refusal, first_or}
use Rattle.yd_undo.specs.declared.entry.Entry.{Entry}
use Rattle.yd_undo.specs.Entry.{undo_entry}
use Rattle.yd_undo.specs.Remade.{Seen, remade_steps}
use Rattle.yd_undo.specs.Steps.{is_live, undo_steps}

-- an undo removes just the live ids that its entry inserted
abbrev pub UndoRemovesItsOwn : Type 0
UndoRemovesItsOwn = (seen : Seen) (e : Entry) (x : Id) → HasId (removed_by (undo_steps seen e)) x ↔ (HasId e.inserted x × (is_live seen x ≡ true))

-- ---- refusals

-- the refusal of steps for what they make: a pair that is parted, own units that wait, or the clock of a run that would end past the last one
abbrev pub making_refusal : Basis → List Step → Option Refusal
making_refusal basis steps =
    first_or (first_of_steps (pair_refusal basis) steps)
    (first_or (first_of_steps (waiting_refusal basis) steps)
    (clock_refusal (basis.vector basis.client.0) steps))

-- an undo is refused for what it makes again and for nothing else. So its places are there, and what it removes is held
abbrev pub UndosAreRefusedForMaking : Type 0
UndosAreRefusedForMaking = (seen : Seen) (e : Entry) → Each IsSpan e.inserted →
    refusal_of seen.basis (undo_steps seen e) ≡ making_refusal seen.basis (remade_steps seen e.deleted)

-- ---- entries

-- one of the operations has the id
abbrev pub HasOne : List Operation → Id → Type 0
HasOne os x = (o : Operation) × IsIn o os × (o.id ≡ x)

-- the entry of an update inserted the ids of its operations, and deleted what it deletes by name and was not noted before
pub record IsOfUpdate (noted : List Span) (update : UpdateValue) : Type 0 where
  pub inserted : (x : Id) → HasId (undo_entry noted update).inserted x ↔ HasOne (operations_of update) x
  pub deleted : (x : Id) → HasId (undo_entry noted update).deleted x ↔ (HasId update.deletes x × (HasId noted x → ⊥))

-- so it is with each update, whatever was noted
abbrev pub EntriesAreOfUpdates : Type 0
EntriesAreOfUpdates = (noted : List Span) (update : UpdateValue) → IsValidUpdate update → IsOfUpdate noted update
