-- What an undo shows of an entry over several lists, list by list, as statements. What is received is honest, nothing waits, and the list's parent is live (own).
use Rattle.std.specs.Prelude.{◌≡◌, true, false, List, Some, IfSome, filter}
use Rattle.yd_words.specs.Each.{Each}
use Rattle.yd_words.specs.Member.{IsIn}
use Rattle.yd_ids.specs.declared.id.Id.{Id}
use Rattle.yd_ids.specs.declared.id.Span.{Span}
use Rattle.yd_ids.specs.Set.{HasId, AreMaximal}
use Rattle.yd_ops.specs.declared.lists.List.{List as DocList}
use Rattle.yd_ops.specs.Operation.{Operation}
use Rattle.yd_ops.specs.Value.{UpdateValue}
use Rattle.yd_ops.specs.Received.{Received, has_operation}
use Rattle.yd_meaning.specs.Deleted.{is_deleted}
use Rattle.yd_meaning.specs.Held.{held_set, standing, is_named}
use Rattle.yd_meaning.specs.Names.{item_of_list}
use Rattle.yd_meaning.specs.Text.{live_units}
use Rattle.yd_editing.specs.Basis.{has_type_item}
use Rattle.yd_editing.specs.Law.{MakesContent}
use Rattle.yd_editing.specs.Made.{removed_by}
use Rattle.yd_editing.specs.Step.{Step}
use Rattle.yd_editing.specs.TextLaw.{IsQuietText}
use Rattle.yd_copying.specs.Content.{can_be_made}
use Rattle.yd_doc.specs.Editing.{IsEdit}
use Rattle.yd_doc.specs.Kept.{Kept, received_of, own_document}
use Rattle.yd_undo.specs.declared.entry.Entry.{Entry}
use Rattle.yd_undo.specs.Entry.{undo_entry}
use Rattle.yd_undo.specs.Stacks.{IsUndone}
use Rattle.yd_restoring.specs.Again.{contents, AreAgain}
use Rattle.yd_restoring.specs.Law.{shows_again}

-- an entry of what is received: its deletions are
pub record IsEntryOf (r : Received) (e : Entry) : Type 0 where
  pub dead : (x : Id) → HasId e.deleted x → HasId r.deletes x
  pub maximal : AreMaximal e.deleted

-- the list's parent is a root or a type
abbrev pub HasPlace : Received → DocList → Type 0
HasPlace r name = IfSome (item_of_list name) (λ y. has_type_item (standing (held_set r.operations)) y ≡ true)

-- the list's parent is a root or live
abbrev pub IsLive : Received → DocList → Type 0
IsLive r name = IfSome (item_of_list name) (λ y. (has_operation (held_set r.operations) y ≡ true) × (is_deleted (held_set r.operations) (is_named r.deletes) y ≡ false))

-- after the undo of an entry, of whatever lists, each text's live units hold, each at its place, what the units held that were
-- live and were not inserted by the entry, and what those held that it deleted
abbrev pub EachUndoShows : Kept → Kept → Type 0
EachUndoShows old new = (name : DocList) (e : Entry) (update : UpdateValue) → IsQuietText (received_of old) name → IsEntryOf (received_of old) e →
    HasPlace (received_of old) name → IsUndone (Some e) old new update → IsLive (received_of new) name →
    AreAgain (contents (live_units (own_document new) name)) (contents (filter (shows_again (own_document old) e) ((own_document old).units name)))

-- what an edit removes of a text was live there, and can be made again
abbrev pub RemovesLive : Kept → DocList → List Step → Type 0
RemovesLive old name steps = (o : Operation) → IsIn o ((own_document old).units name) → HasId (removed_by steps) o.id →
    ((own_document old).deleted o.id ≡ false) × (can_be_made o.content ≡ true)

-- after an edit and its undo each text's live units hold what those held that were live before both. All that was noted before
-- the edit was deleted. An undo is an edit too, so this is also said of an undo and its redo
abbrev pub EditsAreUndone : Kept → Kept → Kept → Type 0
EditsAreUndone old mid new = (name : DocList) (steps : List Step) (noted : List Span) (update undone : UpdateValue) → IsQuietText (received_of old) name →
    Each MakesContent steps → IsEdit old mid steps update → ((x : Id) → HasId noted x → HasId (received_of old).deletes x) → RemovesLive old name steps →
    HasPlace (received_of mid) name → IsLive (received_of mid) name → IsUndone (Some (undo_entry noted update)) mid new undone → IsLive (received_of new) name →
    AreAgain (contents (live_units (own_document new) name)) (contents (live_units (own_document old) name))

-- ---- an undo and its redo

-- no type is among the units of a list that the entry inserted and that are live
abbrev pub InsertsNoType : Kept → DocList → Entry → Type 0
InsertsNoType old name e = (o : Operation) → IsIn o ((own_document old).units name) → (own_document old).deleted o.id ≡ false → HasId e.inserted o.id → can_be_made o.content ≡ true

-- after an undo and its redo each text's live units hold what those held that were live before both. All that was noted before the
-- undo was deleted, and the entry inserted no type there that is live
abbrev pub EachRedoShows : Kept → Kept → Kept → Type 0
EachRedoShows old mid new = (name : DocList) (e : Entry) (noted : List Span) (undone redone : UpdateValue) → IsQuietText (received_of old) name →
    ((x : Id) → HasId noted x → HasId (received_of old).deletes x) → InsertsNoType old name e → IsUndone (Some e) old mid undone →
    HasPlace (received_of mid) name → IsLive (received_of mid) name → IsUndone (Some (undo_entry noted undone)) mid new redone → IsLive (received_of new) name →
    AreAgain (contents (live_units (own_document new) name)) (contents (live_units (own_document old) name))
