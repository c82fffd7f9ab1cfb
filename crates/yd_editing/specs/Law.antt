-- The laws of edits, as statements.
use Rattle.std.specs.Prelude.{◌≡◌, ◌≢◌, ◌↔◌, ◌⊎◌, ◌<◌, ℕ, true, false, ◌&&◌, ◌||◌, not, List, ◌∷◌, ◌++◌, map, Option, Some, None, IfSome}
use Rattle.yd_words.specs.Each.{Each}
use Rattle.yd_words.specs.Test.{is_some_and}
use Rattle.yd_words.specs.Member.{IsIn}
use Rattle.yd_ids.specs.declared.id.Client.{Client}
use Rattle.yd_ids.specs.declared.id.Id.{Id}
use Rattle.yd_ids.specs.declared.id.Span.{Span}
use Rattle.yd_ids.specs.Id.{IsClient, IsId}
use Rattle.yd_ids.specs.Set.{HasId, AreMaximal}
use Rattle.yd_ids.specs.Ids.{is_smaller, is_same_neighbour}
use Rattle.yd_origins.specs.Parts.{behind, up_to}
use Rattle.yd_units.specs.Half.{AreUnits, IsWhole}
use Rattle.yd_ops.specs.declared.lists.List.{List as DocList}
use Rattle.yd_ops.specs.Operation.{Operation, operations_of_run, operations_of}
use Rattle.yd_ops.specs.Value.{ContentValue, json, binary, string, embed, format, nested, any, deleted, len_of}
use Rattle.yd_ops.specs.Valid.{IsValidContent, IsParent, IsValidUpdate}
use Rattle.yd_origins.specs.Deleted.{last_of}
use Rattle.yd_ops.specs.Received.{has_operation, IsWritten, taken_in, all_taken, Received, received_after}
use Rattle.yd_ops.specs.ReceivedLaw.{IsReceived}
use Rattle.yd_meaning.specs.Deleted.{is_in_delete_set}
use Rattle.yd_meaning.specs.Held.{held_set, held_clock, standing, is_named}
use Rattle.yd_meaning.specs.Document.{Document, operations_at, document_of}
use Rattle.yd_meaning.specs.Names.{item_of_list, has_key}
use Rattle.yd_meaning.specs.Order.{list_of, order_of, AreHonest}
use Rattle.yd_meaning.specs.Law.{IsMade}
use Rattle.yd_meaning.specs.Replica.{IsReplicaDocument}
use Rattle.yd_editing.specs.Basis.{Basis, basis_over, basis_of}
use Rattle.yd_editing.specs.Refused.{spans_refusal, refusal_of}
use Rattle.yd_editing.specs.Made.{runs_on, made_on, evolved_on, removed_by, update_of_edit, made_run, runs_of, lists_after, operations_of_runs}
use Rattle.yd_editing.specs.Step.{Step, make, remove, not_held}

-- ---- one made operation

-- operations in the order of writing that are all held, and keep the edit rules
pub record IsHonestHeld (held : List Operation) : Type 0 where
  pub written : IsWritten held
  pub whole : held_set held ≡ held
  pub honest : AreHonest held

-- with the made operation all are held and honest; it stands directly behind its left origin, and no other list changes;
-- what is not lost stays so
pub record StandsBehind (held : List Operation) (made : Operation) (name : DocList) : Type 0 where
  pub all_held : IsHonestHeld (taken_in made held)
  pub place : order_of (standing (taken_in made held)) name
      ≡ up_to made.left_origin (order_of (standing held) name) ++ made.id ∷ behind made.left_origin (order_of (standing held) name)
  pub others : (other : DocList) → other ≢ name → order_of (standing (taken_in made held)) other ≡ order_of (standing held) other
  pub is_there : IsIn made (taken_in made held)
  pub all_stay : (o : Operation) → IsIn o held → IsIn o (taken_in made held)
  pub no_other : (o : Operation) → IsIn o (taken_in made held) → (o ≡ made) ⊎ IsIn o held
  pub stands : IsIn made (standing (taken_in made held))
  pub stay_standing : (o : Operation) → IsIn o (standing held) → IsIn o (standing (taken_in made held))
  pub no_other_stands : (o : Operation) → IsIn o (standing (taken_in made held)) → (o ≡ made) ⊎ IsIn o (standing held)
  pub of_list : list_of (standing (taken_in made held)) made.id ≡ name
  pub same_list : (y : Id) → has_operation (standing held) y ≡ true → list_of (standing held) y ≡ list_of (standing (taken_in made held)) y

-- so it is with each operation that is made between two neighbours of a list
abbrev pub MadeUnitsStand : Type 0
MadeUnitsStand = (held : List Operation) → IsHonestHeld held → (made : Operation) (name : DocList) → IsMade held made name → StandsBehind held made name

-- ---- a made run

-- the units of a list of held operations, in order
abbrev pub units_of : List Operation → DocList → List Operation
units_of held name = operations_at (standing held) (order_of (standing held) name)

-- the parent of the list is a root or stands, and the unit behind which a run is made is in the list
pub record IsPlace (held : List Operation) (name : DocList) (after : Option Id) : Type 0 where
  pub parent : IfSome (item_of_list name) (λ y. has_operation (standing held) y ≡ true)
  pub of_list : IfSome after (λ y. IsIn y (order_of (standing held) name))

-- the held clocks of the client are those below its next clock
abbrev pub IsNextClock : List Operation → Client → ℕ → Type 0
IsNextClock held client clock = (k : ℕ) → has_operation held (record { client = client; clock = k }) ≡ true ↔ k < clock

-- with made operations all are held and honest; they stand directly behind a unit of the list, in their order, and no other
-- list changes; what is not lost stays so, as it is and where it is
pub record StandAllBehind (held news : List Operation) (name : DocList) (after : Option Id) : Type 0 where
  pub all_held : IsHonestHeld (all_taken news held)
  pub place : order_of (standing (all_taken news held)) name
      ≡ up_to after (order_of (standing held) name) ++ (map (λ (o : Operation). o.id) news ++ behind after (order_of (standing held) name))
  pub others : (other : DocList) → other ≢ name → order_of (standing (all_taken news held)) other ≡ order_of (standing held) other
  pub are_there : (o : Operation) → IsIn o news → IsIn o (all_taken news held)
  pub all_stay : (o : Operation) → IsIn o held → IsIn o (all_taken news held)
  pub no_other : (o : Operation) → IsIn o (all_taken news held) → IsIn o news ⊎ IsIn o held
  pub stand : (o : Operation) → IsIn o news → IsIn o (standing (all_taken news held))
  pub stay_standing : (o : Operation) → IsIn o (standing held) → IsIn o (standing (all_taken news held))
  pub no_other_stands : (o : Operation) → IsIn o (standing (all_taken news held)) → IsIn o news ⊎ IsIn o (standing held)
  pub of_list : (o : Operation) → IsIn o news → list_of (standing (all_taken news held)) o.id ≡ name
  pub same_list : (y : Id) → has_operation (standing held) y ≡ true → list_of (standing held) y ≡ list_of (standing (all_taken news held)) y

-- so it is with the run that a client makes at its next clock
abbrev pub MadeRunsStand : Type 0
MadeRunsStand = (held : List Operation) → IsHonestHeld held → (client : Client) (name : DocList) (after : Option Id) (content : ContentValue) → IsPlace held name after →
    StandAllBehind held (operations_of_run (made_run client (held_clock held client.0) (units_of held name) name after content)) name after

-- ---- steps

-- a step makes a run at such a place, or removes ids
abbrev pub CanStep : List Operation → Step → Type 0
CanStep held (make name after content) = IsPlace held name after
CanStep held (remove spans) = Unit {0}

-- with the operations that steps make all are held and honest, and each list is the one that the steps evolved
pub record StandAfter (held news : List Operation) (evolved : DocList → List Operation) : Type 0 where
  pub all_held : IsHonestHeld (all_taken news held)
  pub lists : (name : DocList) → units_of (all_taken news held) name ≡ evolved name
  pub are_there : (o : Operation) → IsIn o news → IsIn o (all_taken news held)
  pub all_stay : (o : Operation) → IsIn o held → IsIn o (all_taken news held)
  pub no_other : (o : Operation) → IsIn o (all_taken news held) → IsIn o news ⊎ IsIn o held
  pub stand : (o : Operation) → IsIn o news → IsIn o (standing (all_taken news held))
  pub stay_standing : (o : Operation) → IsIn o (standing held) → IsIn o (standing (all_taken news held))
  pub no_other_stands : (o : Operation) → IsIn o (standing (all_taken news held)) → IsIn o news ⊎ IsIn o (standing held)
  pub same_list : (y : Id) → has_operation (standing held) y ≡ true → list_of (standing held) y ≡ list_of (standing (all_taken news held)) y

-- so it is with all steps of an edit, each of which can be made on what was held before
abbrev pub StepsStand : Type 0
StepsStand = (held : List Operation) → IsHonestHeld held → (client : Client) (steps : List Step) → Each (CanStep held) steps →
    StandAfter held (operations_of_runs (runs_of client (held_clock held client.0) (units_of held) steps)) (lists_after client (held_clock held client.0) (units_of held) steps)

-- ---- the update of an edit

-- a content that a step may make: not spelled deleted, and a text is whole
abbrev pub IsMakeable : ContentValue → Type 0
IsMakeable (json units) = Unit {0}
IsMakeable (binary blob) = Unit {0}
IsMakeable (string units) = AreUnits units × IsWhole units
IsMakeable (embed value) = Unit {0}
IsMakeable (format key value) = Unit {0}
IsMakeable (nested kind) = Unit {0}
IsMakeable (any values) = Unit {0}
IsMakeable (deleted count) = ⊥

-- a step makes no other content
abbrev pub MakesContent : Step → Type 0
MakesContent (make name after content) = IsMakeable content
MakesContent (remove spans) = Unit {0}

-- what is received with the update of an edit on a basis
abbrev pub after_edit_on : Basis → Received → List Step → Received
after_edit_on basis r steps = received_after r (update_of_edit basis steps)

-- the update of an edit has just the made operations, and all are new: what is received is the old with them, as they are,
-- and the deleted ids are the old ones with those that are removed. Where what is held is honest, it is so at the moment when
-- they are made, before anything that waited is held, and each list is the one that the steps evolved
pub record EditIsTakenOn (basis : Basis) (r : Received) (steps : List Step) : Type 0 where
  pub made : operations_of (update_of_edit basis steps) ≡ made_on basis steps
  pub new : (o : Operation) → IsIn o (made_on basis steps) → has_operation r.operations o.id ≡ false
  pub operations : (after_edit_on basis r steps).operations ≡ all_taken (made_on basis steps) r.operations
  pub members : (o : Operation) → IsIn o (after_edit_on basis r steps).operations ↔ (IsIn o (made_on basis steps) ⊎ IsIn o r.operations)
  pub deletes : (x : Id) → HasId (after_edit_on basis r steps).deletes x ↔ (HasId r.deletes x ⊎ HasId (removed_by steps) x)
  pub moment : AreHonest (held_set r.operations) → StandAfter (held_set r.operations) (made_on basis steps) (evolved_on basis steps)

-- so it is with each edit that is not refused, over each document that a replica may have of what it received
abbrev pub OwnEditsAreTaken : Type 0
OwnEditsAreTaken = (client : Client) (document : Document) (r : Received) (steps : List Step) → IsReceived r → IsReplicaDocument document r →
    Each MakesContent steps → refusal_of (basis_over client document r) steps ≡ None → EditIsTakenOn (basis_over client document r) r steps

-- what is received with the update of an edit on the defined document
abbrev pub after_edit : Client → Received → List Step → Received
after_edit client r steps = after_edit_on (basis_of client r) r steps

-- the operations that an edit of a client makes on it
abbrev pub made_by : Client → Received → List Step → List Operation
made_by client r steps = made_on (basis_of client r) steps

-- its lists as the edit evolves them
abbrev pub evolved_by : Client → Received → List Step → DocList → List Operation
evolved_by client r steps = evolved_on (basis_of client r) steps

-- the update of an edit on it is taken so
abbrev pub EditIsTaken : Client → Received → List Step → Type 0
EditIsTaken client r steps = EditIsTakenOn (basis_of client r) r steps

-- so it is with each edit that is not refused
abbrev pub EditsAreTaken : Type 0
EditsAreTaken = (client : Client) (r : Received) (steps : List Step) → IsReceived r → Each MakesContent steps →
    refusal_of (basis_of client r) steps ≡ None → EditIsTaken client r steps

-- where nothing waits, all that is received is held after the edit, it is honest, and the document has the evolved lists
pub record EditIsHeld (client : Client) (r : Received) (steps : List Step) : Type 0 where
  pub all_held : IsHonestHeld (after_edit client r steps).operations
  pub held : held_set (after_edit client r steps).operations ≡ all_taken (made_by client r steps) (held_set r.operations)
  pub lists : (name : DocList) → (document_of (after_edit client r steps)).units name ≡ evolved_by client r steps name

-- so it is with each edit that is not refused
abbrev pub EditsAreHeld : Type 0
EditsAreHeld = (client : Client) (r : Received) (steps : List Step) → IsReceived r → held_set r.operations ≡ r.operations → AreHonest (held_set r.operations) →
    Each MakesContent steps → refusal_of (basis_of client r) steps ≡ None → EditIsHeld client r steps

-- ---- removals

-- spans that are not refused have held ids alone; and a refusal names the smallest id that is not held
pub record RemovalTells (r : Received) (spans : List Span) : Type 0 where
  pub all_held : spans_refusal (held_clock (held_set r.operations)) spans ≡ None → (x : Id) → HasId spans x → has_operation (held_set r.operations) x ≡ true
  pub first : (x : Id) → spans_refusal (held_clock (held_set r.operations)) spans ≡ Some (not_held x) →
      HasId spans x × (has_operation (held_set r.operations) x ≡ false) × ((y : Id) → HasId spans y → is_smaller y x ≡ true → has_operation (held_set r.operations) y ≡ true)

-- so it is with all maximal spans
abbrev pub RemovalsTell : Type 0
RemovalsTell = (r : Received) → IsWritten r.operations → (spans : List Span) → AreMaximal spans → RemovalTells r spans

-- ---- valid updates

-- a step in range: a valid content of at least one unit for a list whose parent is in range, or maximal spans
abbrev pub IsStepInRange : Step → Type 0
IsStepInRange (make name after content) = IsValidContent content × (0 < len_of content) × IsParent name.parent
IsStepInRange (remove spans) = AreMaximal spans

-- the update of an edit that is not refused is valid, where the ids of what is received are in range; and none of its runs
-- has a made unit as its left origin, so no two of them join
pub record IsValidEditOn (basis : Basis) (r : Received) (steps : List Step) : Type 0 where
  pub valid : IsValidUpdate (update_of_edit basis steps)
  pub lefts : Each (λ run. IfSome run.left (λ y. has_operation r.operations y ≡ true)) (runs_on basis steps)

-- so it is with each edit of steps in range, over each document that a replica may have of what it received
abbrev pub OwnEditsAreValid : Type 0
OwnEditsAreValid = (client : Client) (document : Document) (r : Received) (steps : List Step) → IsReceived r → IsReplicaDocument document r →
    Each IsStepInRange steps → IsClient client → ((o : Operation) → IsIn o r.operations → IsId o.id) →
    refusal_of (basis_over client document r) steps ≡ None → IsValidEditOn (basis_over client document r) r steps

-- the update of an edit on the defined document is so valid
abbrev pub IsValidEdit : Client → Received → List Step → Type 0
IsValidEdit client r steps = IsValidEditOn (basis_of client r) r steps

-- so it is with each edit of steps in range
abbrev pub EditsAreValid : Type 0
EditsAreValid = (client : Client) (r : Received) (steps : List Step) → IsReceived r → Each IsStepInRange steps → IsClient client →
    ((o : Operation) → IsIn o r.operations → IsId o.id) → refusal_of (basis_of client r) steps ≡ None → IsValidEdit client r steps

-- ---- what is deleted after an edit

-- what was deleted is so still; and a unit of a list is deleted where a deletion names it, where the list has a key and the
-- unit does not stand last in the evolved list, and where the list's parent is deleted
pub record EditDeletes (client : Client) (r : Received) (steps : List Step) : Type 0 where
  pub stays : (x : Id) → is_in_delete_set r x ≡ true → is_in_delete_set (after_edit client r steps) x ≡ true
  pub of_units : (name : DocList) (o : Operation) → IsIn o (evolved_by client r steps name) →
      (document_of (after_edit client r steps)).deleted o.id
      ≡ (is_named (after_edit client r steps).deletes o.id
      || ((has_key name && not (is_same_neighbour (last_of (map (λ (p : Operation). p.id) (evolved_by client r steps name))) (Some o.id)))
      || is_some_and (document_of (after_edit client r steps)).deleted (item_of_list name)))

-- so it is where nothing waits
abbrev pub EditsDelete : Type 0
EditsDelete = (client : Client) (r : Received) (steps : List Step) → IsReceived r → held_set r.operations ≡ r.operations → AreHonest (held_set r.operations) →
    Each MakesContent steps → refusal_of (basis_of client r) steps ≡ None → EditDeletes client r steps
