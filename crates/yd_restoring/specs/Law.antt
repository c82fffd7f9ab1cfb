-- What an undo shows of a text, and an undo that is undone again, as statements. What is received is honest, nothing waits, and the list's parent is live (own).
use Rattle.std.specs.Prelude.{◌≡◌, true, ◌||◌, ◌&&◌, not, Bool, List, Some, IfSome, filter}
use Rattle.yd_words.specs.Member.{IsIn}
use Rattle.yd_ids.specs.declared.id.Id.{Id}
use Rattle.yd_ids.specs.declared.id.Span.{Span}
use Rattle.yd_ids.specs.Set.{HasId, AreMaximal}
use Rattle.yd_ops.specs.declared.lists.List.{List as DocList}
use Rattle.yd_ops.specs.Operation.{Operation}
use Rattle.yd_ops.specs.Value.{UpdateValue}
use Rattle.yd_ops.specs.Received.{Received, has_operation}
use Rattle.yd_meaning.specs.Document.{Document}
use Rattle.yd_meaning.specs.Held.{held_set, standing, is_named}
use Rattle.yd_meaning.specs.Names.{item_of_list}
use Rattle.yd_meaning.specs.Order.{order_of}
use Rattle.yd_meaning.specs.Text.{live_units}
use Rattle.yd_editing.specs.Basis.{has_type_item}
use Rattle.yd_editing.specs.TextLaw.{IsQuietText}
use Rattle.yd_copying.specs.Content.{can_be_made}
use Rattle.yd_doc.specs.Kept.{Kept, received_of, own_document}
use Rattle.yd_undo.specs.declared.entry.Entry.{Entry}
use Rattle.yd_undo.specs.Entry.{undo_entry}
use Rattle.yd_undo.specs.Stacks.{IsUndone}
use Rattle.yd_restoring.specs.Again.{contents, AreAgain}

-- an entry is of one text, whose parent is a root or a type: what it inserted stands there, as far as it is held, and what it
-- deleted does, and each of its deletions is received
pub record IsOfText (r : Received) (name : DocList) (e : Entry) : Type 0 where
  pub parent : IfSome (item_of_list name) (λ y. has_type_item (standing (held_set r.operations)) y ≡ true)
  pub inserted : (x : Id) → HasId e.inserted x → has_operation (held_set r.operations) x ≡ true → IsIn x (order_of (standing (held_set r.operations)) name)
  pub deleted : (x : Id) → HasId e.deleted x → IsIn x (order_of (standing (held_set r.operations)) name)
  pub dead : (x : Id) → HasId e.deleted x → HasId r.deletes x
  pub maximal : AreMaximal e.deleted

-- a unit shows after the undo of an entry: it was live and the entry did not insert it, or the entry deleted it and it can be made again
abbrev pub shows_again : Document → Entry → Operation → Bool
shows_again document e o = (not (document.deleted o.id) && not (is_named e.inserted o.id)) || (is_named e.deleted o.id && can_be_made o.content)

-- after an undo the text's live units hold, each at its place, what the units held that were live and were not inserted by the
-- entry, and what those held that it deleted
abbrev pub UndosShow : Kept → Kept → Type 0
UndosShow old new = (name : DocList) (e : Entry) (update : UpdateValue) → IsQuietText (received_of old) name → IsOfText (received_of old) name e →
    IsUndone (Some e) old new update → AreAgain (contents (live_units (own_document new) name)) (contents (filter (shows_again (own_document old) e) ((own_document old).units name)))

-- after an undo and its redo the text's live units hold what those held that were live before both. All that was noted is deleted,
-- and no type is among the units that the entry inserted and that are live
abbrev pub RedosShow : Kept → Kept → Kept → Type 0
RedosShow old mid new = (name : DocList) (e : Entry) (noted : List Span) (undone redone : UpdateValue) → IsQuietText (received_of old) name → IsOfText (received_of old) name e →
    ((x : Id) → HasId noted x → HasId (received_of old).deletes x) →
    ((o : Operation) → IsIn o (live_units (own_document old) name) → HasId e.inserted o.id → can_be_made o.content ≡ true) →
    IsUndone (Some e) old mid undone → IsUndone (Some (undo_entry noted undone)) mid new redone →
    AreAgain (contents (live_units (own_document new) name)) (contents (live_units (own_document old) name))
