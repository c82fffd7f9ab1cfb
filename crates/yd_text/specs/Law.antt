-- What each edit of a text shows in a replica that made it, as statements. Its document is honest and nothing waits (own).
use Rattle.std.specs.Prelude.{◌≡◌, ◌≢◌, ℕ, true, List, ◌++◌, map, take, drop, None}
use Rattle.yd_words.specs.Each.{Each}
use Rattle.yd_ids.specs.declared.id.Id.{Id}
use Rattle.yd_any.specs.Tree.{AnyTree, null}
use Rattle.yd_ops.specs.declared.lists.List.{List as DocList}
use Rattle.yd_ops.specs.Operation.{Operation, UnitContent, units_of_content}
use Rattle.yd_ops.specs.Value.{ContentValue, UpdateValue}
use Rattle.yd_meaning.specs.Document.{Document}
use Rattle.yd_meaning.specs.Text.{live_units}
use Rattle.yd_shown.specs.Shown.{is_counted}
use Rattle.yd_editing.specs.Law.{IsHonestHeld, IsMakeable}
use Rattle.yd_editing.specs.Others.{OtherListsStay}
use Rattle.yd_editing.specs.TextEdit.{counted_units, insert_steps, delete_steps, format_steps, insert_refusal, delete_refusal, format_refusal}
use Rattle.yd_editing.specs.TextLaw.{IsQuietText, Valued, valued, with_values}
use Rattle.yd_doc.specs.Editing.{own_basis, IsEdit}
use Rattle.yd_doc.specs.Kept.{Kept, received_of, own_document}

-- ---- insertions and embeds

-- all is held and honest; the live counted units are the old ones with others at the index, which hold these. Every other
-- list stays, and just those ids are deleted that were
pub record ShowsInserted (old new : Kept) (name : DocList) (index : ℕ) (contents : List UnitContent) : Type 0 where
  pub held : IsHonestHeld (received_of new).operations
  pub made : List Operation
  pub contents_are : map (λ (o : Operation). o.content) made ≡ contents
  pub units : counted_units (own_document new) name ≡ take index (counted_units (own_document old) name) ++ (made ++ drop index (counted_units (own_document old) name))
  pub others : OtherListsStay (own_document old) (own_document new) name
  pub deleted : (x : Id) → (own_document new).deleted x ≡ (own_document old).deleted x

-- so it is after an insertion of a text, an embed or other counted units
abbrev pub InsertionsShow : Kept → Kept → Type 0
InsertionsShow old new = (name : DocList) (index : ℕ) (content : ContentValue) (update : UpdateValue) → IsQuietText (received_of old) name → IsMakeable content →
    Each (λ unit. is_counted unit ≡ true) (units_of_content content) → insert_refusal (own_basis old) name index content ≡ None →
    IsEdit old new (insert_steps (own_document old) name index content) update → ShowsInserted old new name index (units_of_content content)

-- ---- deletions

-- all is held and honest; the live counted units are the old ones without so many from the index on. Every other list stays
pub record ShowsDeleted (old new : Kept) (name : DocList) (index len : ℕ) : Type 0 where
  pub held : IsHonestHeld (received_of new).operations
  pub units : counted_units (own_document new) name ≡ take index (counted_units (own_document old) name) ++ drop len (drop index (counted_units (own_document old) name))
  pub others : OtherListsStay (own_document old) (own_document new) name

-- so it is after a deletion
abbrev pub DeletionsShow : Kept → Kept → Type 0
DeletionsShow old new = (name : DocList) (index len : ℕ) (update : UpdateValue) → IsQuietText (received_of old) name → delete_refusal (own_basis old) name index len ≡ None →
    IsEdit old new (delete_steps (own_document old) name index len) update → ShowsDeleted old new name index len

-- ---- formats

-- the live counted units of a document's list, each with the key's value in force at it
abbrev pub values_in : Document → DocList → List ℕ → List Valued
values_in document name key = valued key null (live_units document name)

-- all is held and honest, and the live counted units are the old ones. So many from the index on have the value for the key,
-- and the others have the value that they had. For every other key all have the value that they had. Every other list stays
pub record ShowsFormatted (old new : Kept) (name : DocList) (index len : ℕ) (key : List ℕ) (value : AnyTree) : Type 0 where
  pub held : IsHonestHeld (received_of new).operations
  pub own : values_in (own_document new) name key ≡ with_values value index len (values_in (own_document old) name key)
  pub keys : (other : List ℕ) → other ≢ key → values_in (own_document new) name other ≡ values_in (own_document old) name other
  pub others : OtherListsStay (own_document old) (own_document new) name

-- so it is after a format
abbrev pub FormatsShow : Kept → Kept → Type 0
FormatsShow old new = (name : DocList) (index len : ℕ) (key : List ℕ) (value : AnyTree) (update : UpdateValue) → IsQuietText (received_of old) name →
    format_refusal (own_basis old) name index len key value ≡ None →
    IsEdit old new (format_steps (own_document old) name index len key value) update → ShowsFormatted old new name index len key value
