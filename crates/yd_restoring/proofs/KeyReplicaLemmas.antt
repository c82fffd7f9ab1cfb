-- What stands under a key of a replica after an undo, and after an edit and its undo, by what they do to what this received.
use Rattle.std.proofs.Common.{◌≡◌, false, true, ℕ, ◌⊎◌, List, Some, sym, ap, ◌∙◌, subst}
use Rattle.yd_words.specs.Each.{Each}
use Rattle.yd_words.specs.Member.{IsIn}
use Rattle.yd_ids.specs.declared.id.Id.{Id}
use Rattle.yd_ids.specs.declared.id.Span.{Span}
use Rattle.yd_ids.specs.Set.{HasId}
use Rattle.yd_ops.specs.declared.lists.Parent.{Parent}
use Rattle.yd_ops.specs.Operation.{Operation}
use Rattle.yd_ops.specs.Value.{UpdateValue}
use Rattle.yd_ops.specs.Received.{Received}
use Rattle.yd_meaning.specs.Document.{Document, document_of}
use Rattle.yd_meaning.specs.Replica.{IsReplicaDocument}
use Rattle.yd_shown.specs.Shown.{own_list, key_list, last_unit, unit_under}
use Rattle.yd_making.specs.Steps.{IsProper}
use Rattle.yd_editing.specs.Law.{MakesContent, after_edit}
use Rattle.yd_editing.specs.Made.{removed_by}
use Rattle.yd_editing.specs.Step.{Step}
use Rattle.yd_editing.specs.TextLaw.{IsQuietText}
use Rattle.yd_copying.specs.Content.{can_be_made}
use Rattle.yd_doc.specs.Editing.{IsEdit}
use Rattle.yd_doc.specs.Kept.{Kept, received_of, own_document}
use Rattle.yd_undo.specs.declared.entry.Entry.{Entry}
use Rattle.yd_undo.specs.Entry.{undo_entry}
use Rattle.yd_undo.specs.Remade.{seen_of}
use Rattle.yd_undo.specs.Steps.{undo_steps}
use Rattle.yd_restoring.specs.Each.{HasPlace, IsEntryOf, IsLive}
use Rattle.yd_restoring.specs.Keyed.{IsUnitAgain, KeysAreUndone, KeysUndoShow, MakesElse, Replaces, under_again}
use Rattle.yd_restoring.proofs.EditUndoneLemmas.{not_deleted, of_then, quiet_then}
use Rattle.yd_restoring.proofs.KeyedLemmas.{key_shows}
use Rattle.yd_restoring.proofs.KeyUndoneLemmas.{same_under}
use Rattle.yd_restoring.proofs.MomentLemmas.{edit_document, edit_done, edit_made, edit_received, edit_valid, undo_is, undo_makes}
use Rattle.yd_restoring.proofs.ShowsLemmas.{seen_in}

module _ (old new : Kept) (own : IsReplicaDocument (own_document old) (received_of old)) (own_then : IsReplicaDocument (own_document new) (received_of new))
    (proper : (e : Entry) → Each IsProper (undo_steps (seen_of old) e)) where
  module _ (parent : Parent) (key : List ℕ) (e : Entry) (update : UpdateValue) (quiet : IsQuietText (received_of old) (own_list parent))
      (is : IsEdit old new (undo_steps (seen_of old) e) update) where
    abbrev steps : List Step
    steps = undo_steps (seen_in old.client (received_of old)) e

    defined : own_document old ≡ document_of (received_of old)
    defined = own.defined quiet.honest

    is_undo : IsEdit old new steps update
    is_undo = undo_is old defined e new update is

    makes : Each MakesContent steps
    makes = undo_makes old defined e (proper e)

    undo_shown : IsEntryOf (received_of old) e → HasPlace (received_of old) (own_list parent) → IsLive (received_of new) (own_list parent) →
        IsUnitAgain (unit_under (own_document new) parent key) (under_again (own_document old) e parent key)
    undo_shown of place live = subst (λ (d : Document). IsUnitAgain (unit_under d parent key) (under_again (own_document old) e parent key))
        (sym (edit_document old defined new steps update is_undo (own_list parent) quiet makes own_then))
        (subst (λ (d : Document). IsUnitAgain (unit_under (document_of (after_edit old.client (received_of old) steps)) parent key) (under_again d e parent key)) (sym defined)
        (key_shows old.client (received_of old) parent key quiet e of place makes (edit_done old defined new steps update is_undo)
        (not_deleted (after_edit old.client (received_of old) steps) (own_list parent)
        (subst (λ (r : Received). IsLive r (own_list parent)) (edit_received old defined new steps update is_undo) live))))

  -- ---- lemmas for callers

  pub keys_undo_shown : KeysUndoShow old new
  keys_undo_shown parent key e update quiet of place is live = undo_shown parent key e update quiet is of place live

module _ (old mid new : Kept) (own_old : IsReplicaDocument (own_document old) (received_of old)) (own_mid : IsReplicaDocument (own_document mid) (received_of mid))
    (own_new : IsReplicaDocument (own_document new) (received_of new)) (proper_mid : (e : Entry) → Each IsProper (undo_steps (seen_of mid) e)) where
  module _ (parent : Parent) (key : List ℕ) (edit : List Step) (noted : List Span) (update : UpdateValue) (quiet : IsQuietText (received_of old) (own_list parent))
      (can : Each MakesContent edit) (is : IsEdit old mid edit update) (dead : (x : Id) → HasId noted x → HasId (received_of old).deletes x)
      (replaces : Replaces old (key_list parent key) edit) (live : IsLive (received_of mid) (own_list parent)) where
    abbrev before : Received
    before = received_of old

    defined_old : own_document old ≡ document_of (received_of old)
    defined_old = own_old.defined quiet.honest

    same : received_of mid ≡ after_edit old.client (received_of old) edit
    same = edit_received old defined_old mid edit update is

    live_mid : IsLive (after_edit old.client (received_of old) edit) (own_list parent)
    live_mid = subst (λ (r : Received). IsLive r (own_list parent)) same live

    quiet_mid : IsQuietText (received_of mid) (own_list parent)
    quiet_mid = subst (λ (r : Received). IsQuietText r (own_list parent)) (sym same)
        (quiet_then old.client before (own_list parent) quiet edit can (edit_done old defined_old mid edit update is) (edit_valid old defined_old mid edit update is) noted live_mid)

    of_mid : IsEntryOf (received_of mid) (undo_entry noted update)
    of_mid = subst (λ (r : Received). IsEntryOf r (undo_entry noted update)) (sym same)
        (subst (λ (u : UpdateValue). IsEntryOf (after_edit old.client (received_of old) edit) (undo_entry noted u)) (sym (edit_made old defined_old mid edit update is))
        (of_then old.client before (own_list parent) quiet edit can (edit_done old defined_old mid edit update is) (edit_valid old defined_old mid edit update is) noted live_mid))

    document_mid : own_document mid ≡ document_of (after_edit old.client (received_of old) edit)
    document_mid = edit_document old defined_old mid edit update is (own_list parent) quiet can own_mid

    removes_live : (o : Operation) → IsIn o ((document_of (received_of old)).units (key_list parent key)) → HasId (removed_by edit) o.id →
        ((document_of (received_of old)).deleted o.id ≡ false) × (can_be_made o.content ≡ true)
    removes_live = subst (λ (d : Document). (o : Operation) → IsIn o (d.units (key_list parent key)) → HasId (removed_by edit) o.id →
        (d.deleted o.id ≡ false) × (can_be_made o.content ≡ true)) defined_old replaces.removed

    replaced : (o : Operation) → last_unit ((document_of (received_of old)).units (key_list parent key)) ≡ Some o → (document_of (received_of old)).deleted o.id ≡ false →
        HasId (removed_by edit) o.id ⊎ Each (MakesElse (key_list parent key)) edit
    replaced = subst (λ (d : Document). (o : Operation) → last_unit (d.units (key_list parent key)) ≡ Some o → d.deleted o.id ≡ false →
        HasId (removed_by edit) o.id ⊎ Each (MakesElse (key_list parent key)) edit) defined_old replaces.replaced

    under_mid : under_again (own_document mid) (undo_entry noted update) parent key ≡ unit_under (own_document old) parent key
    under_mid = (λ i. under_again (document_mid i) (undo_entry noted (edit_made old defined_old mid edit update is i)) parent key)
        ∙ same_under old.client before parent key quiet edit can (edit_done old defined_old mid edit update is) (edit_valid old defined_old mid edit update is) noted live_mid
        dead removes_live replaced
        ∙ ap (λ (d : Document). unit_under d parent key) (sym defined_old)

    under_undone : HasPlace (received_of mid) (own_list parent) → (undone : UpdateValue) → IsEdit mid new (undo_steps (seen_of mid) (undo_entry noted update)) undone →
        IsLive (received_of new) (own_list parent) → IsUnitAgain (unit_under (own_document new) parent key) (unit_under (own_document old) parent key)
    under_undone place undone again live_new = subst (λ u. IsUnitAgain (unit_under (own_document new) parent key) u) under_mid
        (keys_undo_shown mid new own_mid own_new proper_mid parent key (undo_entry noted update) undone quiet_mid of_mid place again live_new)

  pub key_undone : KeysAreUndone old mid new
  key_undone parent key edit noted update undone quiet can is dead replaces place live again live_new =
      under_undone parent key edit noted update quiet can is dead replaces live place undone again live_new
