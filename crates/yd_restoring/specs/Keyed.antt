-- What an undo shows under a key of a map, as statements. What is received is honest, nothing waits, and the map is live (own).
use Rattle.std.specs.Prelude.{◌≡◌, ◌≢◌, ◌⊎◌, true, false, ◌||◌, ◌&&◌, ℕ, List, Option, Some, None, filter}
use Rattle.yd_words.specs.Each.{Each}
use Rattle.yd_words.specs.Member.{IsIn}
use Rattle.yd_ids.specs.declared.id.Id.{Id}
use Rattle.yd_ids.specs.declared.id.Span.{Span}
use Rattle.yd_ids.specs.Set.{HasId}
use Rattle.yd_ops.specs.declared.lists.List.{List as DocList}
use Rattle.yd_ops.specs.declared.lists.Parent.{Parent}
use Rattle.yd_ops.specs.Operation.{Operation}
use Rattle.yd_ops.specs.Value.{ContentValue, UpdateValue}
use Rattle.yd_meaning.specs.Document.{Document}
use Rattle.yd_meaning.specs.Held.{is_named}
use Rattle.yd_shown.specs.Shown.{own_list, key_list, last_unit, if_shown, unit_under}
use Rattle.yd_editing.specs.Law.{IsMakeable, MakesContent}
use Rattle.yd_editing.specs.Made.{removed_by}
use Rattle.yd_editing.specs.MapEdit.{set_steps, unset_steps}
use Rattle.yd_editing.specs.Step.{Step, make, remove}
use Rattle.yd_editing.specs.TextLaw.{IsQuietText}
use Rattle.yd_copying.specs.Content.{can_be_made}
use Rattle.yd_doc.specs.Editing.{IsEdit}
use Rattle.yd_doc.specs.Kept.{Kept, received_of, own_document}
use Rattle.yd_undo.specs.declared.entry.Entry.{Entry}
use Rattle.yd_undo.specs.Entry.{undo_entry}
use Rattle.yd_undo.specs.Remade.{seen_of}
use Rattle.yd_undo.specs.Stacks.{IsUndone}
use Rattle.yd_undo.specs.Steps.{undo_steps}
use Rattle.yd_restoring.specs.Again.{IsAgain}
use Rattle.yd_restoring.specs.Each.{HasPlace, InsertsNoType, IsEntryOf, IsLive, RemovesLive}

-- ---- an undo

-- the last of some units that the entry deleted and that can be made again
abbrev pub last_again : Entry → List Operation → Option Operation
last_again e units = last_unit (filter (λ o. is_named e.deleted o.id && can_be_made o.content) units)

-- what stands under a key then: this unit, where it is counted; and where there is none, the last one, where it is live and
-- counted and the entry did not insert it
abbrev pub under_then : Document → Entry → List Operation → Option Operation → Option Operation
under_then document e units (Some o) = if_shown (λ x. false) (Some o)
under_then document e units None = if_shown (λ x. document.deleted x || is_named e.inserted x) (last_unit units)

-- of the units of a key
abbrev pub under_again : Document → Entry → Parent → List ℕ → Option Operation
under_again document e parent key = under_then document e (document.units (key_list parent key)) (last_again e (document.units (key_list parent key)))

-- one unit holds what another held, or there is neither
abbrev pub IsUnitAgain : Option Operation → Option Operation → Type 0
IsUnitAgain None None = Unit {0}
IsUnitAgain None (Some old) = ⊥
IsUnitAgain (Some new) None = ⊥
IsUnitAgain (Some new) (Some old) = IsAgain new.content old.content

-- after the undo of an entry, of whatever lists, a key shows the last of what the entry deleted there; where that is nothing,
-- it shows what it showed, unless the entry inserted this
abbrev pub KeysUndoShow : Kept → Kept → Type 0
KeysUndoShow old new = (parent : Parent) (key : List ℕ) (e : Entry) (update : UpdateValue) → IsQuietText (received_of old) (own_list parent) → IsEntryOf (received_of old) e →
    HasPlace (received_of old) (own_list parent) → IsUndone (Some e) old new update → IsLive (received_of new) (own_list parent) →
    IsUnitAgain (unit_under (own_document new) parent key) (under_again (own_document old) e parent key)

-- ---- an edit and its undo

-- a step makes nothing in the list
abbrev pub MakesElse : DocList → Step → Type 0
MakesElse name (make other after content) = other ≢ name
MakesElse name (remove spans) = Unit {0}

-- what an edit removes of a key was live there and can be made again, and where it makes something there, what was live is
-- removed, as a set does
pub record Replaces (old : Kept) (name : DocList) (steps : List Step) : Type 0 where
  pub removed : RemovesLive old name steps
  pub replaced : (o : Operation) → last_unit ((own_document old).units name) ≡ Some o → (own_document old).deleted o.id ≡ false →
      HasId (removed_by steps) o.id ⊎ Each (MakesElse name) steps

-- after an edit and its undo a key shows what it showed before both. All that was noted before the edit was deleted. An undo is
-- an edit too, so this is also said of an undo and its redo
abbrev pub KeysAreUndone : Kept → Kept → Kept → Type 0
KeysAreUndone old mid new = (parent : Parent) (key : List ℕ) (steps : List Step) (noted : List Span) (update undone : UpdateValue) →
    IsQuietText (received_of old) (own_list parent) → Each MakesContent steps → IsEdit old mid steps update → ((x : Id) → HasId noted x → HasId (received_of old).deletes x) →
    Replaces old (key_list parent key) steps → HasPlace (received_of mid) (own_list parent) → IsLive (received_of mid) (own_list parent) →
    IsUndone (Some (undo_entry noted update)) mid new undone → IsLive (received_of new) (own_list parent) →
    IsUnitAgain (unit_under (own_document new) parent key) (unit_under (own_document old) parent key)

-- ---- an undo and its redo

-- what is live under a key is no type, and the entry inserted it, or the undo makes nothing there
pub record IsOwnKey (old : Kept) (name : DocList) (e : Entry) : Type 0 where
  pub no_type : InsertsNoType old name e
  pub own : (o : Operation) → last_unit ((own_document old).units name) ≡ Some o → (own_document old).deleted o.id ≡ false →
      HasId e.inserted o.id ⊎ Each (MakesElse name) (undo_steps (seen_of old) e)

-- after an undo and its redo a key shows what it showed before both. All that was noted before the undo was deleted
abbrev pub KeysRedoShow : Kept → Kept → Kept → Type 0
KeysRedoShow old mid new = (parent : Parent) (key : List ℕ) (e : Entry) (noted : List Span) (undone redone : UpdateValue) →
    IsQuietText (received_of old) (own_list parent) → ((x : Id) → HasId noted x → HasId (received_of old).deletes x) → IsOwnKey old (key_list parent key) e →
    IsUndone (Some e) old mid undone → HasPlace (received_of mid) (own_list parent) → IsLive (received_of mid) (own_list parent) →
    IsUndone (Some (undo_entry noted undone)) mid new redone → IsLive (received_of new) (own_list parent) →
    IsUnitAgain (unit_under (own_document new) parent key) (unit_under (own_document old) parent key)

-- ---- the edits of a map

-- what is live under a key is no type
abbrev pub IsNoType : Document → Parent → List ℕ → Type 0
IsNoType document parent key = (o : Operation) → IsIn o (document.units (key_list parent key)) → document.deleted o.id ≡ false → can_be_made o.content ≡ true

-- so it is with a key that is set, if what was live there was no type
abbrev pub SettingsAreUndone : Kept → Kept → Kept → Type 0
SettingsAreUndone old mid new = (parent : Parent) (key : List ℕ) (content : ContentValue) (noted : List Span) (update undone : UpdateValue) →
    IsQuietText (received_of old) (own_list parent) → IsMakeable content → IsNoType (own_document old) parent key →
    IsEdit old mid (set_steps (own_document old) parent key content) update → ((x : Id) → HasId noted x → HasId (received_of old).deletes x) →
    HasPlace (received_of mid) (own_list parent) → IsLive (received_of mid) (own_list parent) → IsUndone (Some (undo_entry noted update)) mid new undone →
    IsLive (received_of new) (own_list parent) → IsUnitAgain (unit_under (own_document new) parent key) (unit_under (own_document old) parent key)

-- and with one whose value is removed
abbrev pub UnsettingsAreUndone : Kept → Kept → Kept → Type 0
UnsettingsAreUndone old mid new = (parent : Parent) (key : List ℕ) (noted : List Span) (update undone : UpdateValue) →
    IsQuietText (received_of old) (own_list parent) → IsNoType (own_document old) parent key →
    IsEdit old mid (unset_steps (own_document old) parent key) update → ((x : Id) → HasId noted x → HasId (received_of old).deletes x) →
    HasPlace (received_of mid) (own_list parent) → IsLive (received_of mid) (own_list parent) → IsUndone (Some (undo_entry noted update)) mid new undone →
    IsLive (received_of new) (own_list parent) → IsUnitAgain (unit_under (own_document new) parent key) (unit_under (own_document old) parent key)
