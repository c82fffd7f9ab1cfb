-- The laws of the edits of a text, as statements.
use Rattle.std.specs.Prelude.{◌≡◌, ◌≢◌, ℕ, true, false, List, [], ◌∷◌, ◌++◌, map, take, drop, None, IfSome, if◌then◌else◌}
use Rattle.yd_words.specs.Each.{Each}
use Rattle.yd_words.specs.Member.{IsIn}
use Rattle.yd_ids.specs.declared.id.Client.{Client}
use Rattle.yd_ids.specs.declared.id.Id.{Id}
use Rattle.yd_ids.specs.Set.{HasId}
use Rattle.yd_any.specs.Tree.{AnyTree, null}
use Rattle.yd_ops.specs.declared.lists.List.{List as DocList}
use Rattle.yd_ops.specs.Operation.{Operation, units_of_content}
use Rattle.yd_ops.specs.Value.{ContentValue}
use Rattle.yd_ops.specs.Valid.{IsValidUpdate}
use Rattle.yd_ops.specs.Received.{Received, has_operation}
use Rattle.yd_ops.specs.ReceivedLaw.{IsReceived}
use Rattle.yd_meaning.specs.Held.{held_set, standing, is_named}
use Rattle.yd_meaning.specs.Names.{item_of_list, has_key}
use Rattle.yd_meaning.specs.Order.{order_of, AreHonest}
use Rattle.yd_meaning.specs.Deleted.{is_deleted}
use Rattle.yd_meaning.specs.Document.{document_of}
use Rattle.yd_meaning.specs.Text.{live_units}
use Rattle.yd_shown.specs.Shown.{is_counted}
use Rattle.yd_editing.specs.Step.{Step, make, remove}
use Rattle.yd_editing.specs.Refused.{refusal_of}
use Rattle.yd_editing.specs.Basis.{basis_of}
use Rattle.yd_editing.specs.Made.{removed_by, update_of_edit}
use Rattle.yd_editing.specs.TextEdit.{counted_units, insert_steps, delete_steps, format_steps, insert_refusal, delete_refusal, format_refusal, value_after}
use Rattle.yd_editing.specs.Law.{after_edit, IsMakeable, MakesContent, made_by, EditIsHeld}
use Rattle.yd_editing.specs.Others.{OtherListsStay}

-- an honest document of which nothing waits, no deletion either, and a list of it without a key, whose parent is a root or live
pub record IsQuietText (r : Received) (name : DocList) : Type 0 where
  pub received : IsReceived r
  pub whole : held_set r.operations ≡ r.operations
  pub deletes : (x : Id) → HasId r.deletes x → has_operation r.operations x ≡ true
  pub honest : AreHonest (held_set r.operations)
  pub no_key : has_key name ≡ false
  pub live : IfSome (item_of_list name) (λ y. (has_operation (held_set r.operations) y ≡ true) × (is_deleted (held_set r.operations) (is_named r.deletes) y ≡ false))

-- steps make in this list alone
abbrev pub MakesIn : DocList → List Step → Type 0
MakesIn name [] = Unit {0}
MakesIn name (make other after content ∷ steps) = (other ≡ name) × MakesIn name steps
MakesIn name (remove spans ∷ steps) = MakesIn name steps

-- a text stays so under each edit of it alone that is not refused: edits may follow one another
abbrev pub QuietTextsStay : Type 0
QuietTextsStay = (client : Client) (r : Received) (name : DocList) (steps : List Step) → IsQuietText r name → Each MakesContent steps → MakesIn name steps →
    ((x : Id) → HasId (removed_by steps) x → IsIn x (order_of (standing (held_set r.operations)) name)) →
    IsValidUpdate (update_of_edit (basis_of client r) steps) → refusal_of (basis_of client r) steps ≡ None → IsQuietText (after_edit client r steps) name

-- ---- insertions

-- after steps that insert a content all is held and honest, and the live counted units are the old ones with the made ones
-- at the index, which have the units of the content. Every other list stays, and just those ids are deleted that were
pub record IsInserted (client : Client) (r : Received) (name : DocList) (index : ℕ) (content : ContentValue) (steps : List Step) : Type 0 where
  pub held : EditIsHeld client r steps
  pub counted : counted_units (document_of (after_edit client r steps)) name
      ≡ take index (counted_units (document_of r) name) ++ (made_by client r steps ++ drop index (counted_units (document_of r) name))
  pub contents : map (λ (o : Operation). o.content) (made_by client r steps) ≡ units_of_content content
  pub others : OtherListsStay (document_of r) (document_of (after_edit client r steps)) name
  pub deleted : (x : Id) → (document_of (after_edit client r steps)).deleted x ≡ (document_of r).deleted x

-- so it is with texts and embeds, whose units are all counted, and with every other content of counted units
abbrev pub InsertsStand : Type 0
InsertsStand = (client : Client) (r : Received) (name : DocList) (index : ℕ) (content : ContentValue) → IsQuietText r name → IsMakeable content →
    Each (λ unit. is_counted unit ≡ true) (units_of_content content) → insert_refusal (basis_of client r) name index content ≡ None →
    IsInserted client r name index content (insert_steps (document_of r) name index content)

-- ---- deletions

-- after steps that delete all is held and honest, and the live counted units are the old ones without those named. Every
-- other list stays
pub record IsRemoved (client : Client) (r : Received) (name : DocList) (index len : ℕ) (steps : List Step) : Type 0 where
  pub held : EditIsHeld client r steps
  pub counted : counted_units (document_of (after_edit client r steps)) name
      ≡ take index (counted_units (document_of r) name) ++ drop len (drop index (counted_units (document_of r) name))
  pub others : OtherListsStay (document_of r) (document_of (after_edit client r steps)) name

-- so it is with each deletion that is not refused
abbrev pub DeletesStand : Type 0
DeletesStand = (client : Client) (r : Received) (name : DocList) (index len : ℕ) → IsQuietText r name →
    delete_refusal (basis_of client r) name index len ≡ None → IsRemoved client r name index len (delete_steps (document_of r) name index len)

-- ---- formats

-- a unit, with a key's value in force at it
pub record Valued : Type 0 where
  pub unit : Operation
  pub value : AnyTree

-- the counted ones of live units, each with the key's value, where this one was in force before them
abbrev pub valued : List ℕ → AnyTree → List Operation → List Valued
valued key v [] = []
valued key v (o ∷ os) = if is_counted o.content then record { unit = o; value = v } ∷ valued key v os else valued key (value_after key o.content v) os

-- those of a list of the document
abbrev pub valued_units : List ℕ → Received → DocList → List Valued
valued_units key r name = valued key null (live_units (document_of r) name)

-- a unit with another value
abbrev pub with_value : AnyTree → Valued → Valued
with_value value u = record { unit = u.unit; value = value }

-- so many units with another value, from an index on
abbrev pub with_values : AnyTree → ℕ → ℕ → List Valued → List Valued
with_values value index len units = take index units ++ (map (with_value value) (take len (drop index units)) ++ drop len (drop index units))

-- after steps that format all is held and honest, and the live counted units are the old ones. So many from the index on
-- have the value for the key, and the others have the value that they had. For every other key all have the value that they
-- had. Every other list stays
pub record IsFormatted (client : Client) (r : Received) (name : DocList) (index len : ℕ) (key : List ℕ) (value : AnyTree) (steps : List Step) : Type 0 where
  pub held : EditIsHeld client r steps
  pub own : valued_units key (after_edit client r steps) name ≡ with_values value index len (valued_units key r name)
  pub keys : (other : List ℕ) → other ≢ key → valued_units other (after_edit client r steps) name ≡ valued_units other r name
  pub others : OtherListsStay (document_of r) (document_of (after_edit client r steps)) name

-- so it is with each format that is not refused
abbrev pub FormatsStand : Type 0
FormatsStand = (client : Client) (r : Received) (name : DocList) (index len : ℕ) (key : List ℕ) (value : AnyTree) → IsQuietText r name →
    format_refusal (basis_of client r) name index len key value ≡ None →
    IsFormatted client r name index len key value (format_steps (document_of r) name index len key value)
