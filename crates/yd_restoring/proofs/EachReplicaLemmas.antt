-- What an undo of an entry over several lists shows in a replica, and an edit with its undo, by what they do to what this received.
use Rattle.std.proofs.Common.{◌≡◌, true, false, List, sym, ap, ◌∙◌, subst}
use Rattle.std.specs.Prelude.{filter}
use Rattle.yd_words.specs.Each.{Each}
use Rattle.yd_words.specs.Member.{IsIn}
use Rattle.yd_ids.specs.declared.id.Id.{Id}
use Rattle.yd_ids.specs.declared.id.Span.{Span}
use Rattle.yd_ids.specs.Set.{HasId}
use Rattle.yd_ops.specs.declared.lists.List.{List as DocList}
use Rattle.yd_ops.specs.Operation.{Operation}
use Rattle.yd_ops.specs.Value.{UpdateValue}
use Rattle.yd_ops.specs.Received.{Received}
use Rattle.yd_meaning.specs.Document.{Document, document_of}
use Rattle.yd_meaning.specs.Text.{live_units}
use Rattle.yd_meaning.specs.Replica.{IsReplicaDocument}
use Rattle.yd_making.specs.Steps.{IsProper}
use Rattle.yd_editing.specs.Law.{MakesContent, after_edit}
use Rattle.yd_editing.specs.Made.{removed_by}
use Rattle.yd_editing.specs.Step.{Step}
use Rattle.yd_editing.specs.TextLaw.{IsQuietText}
use Rattle.yd_copying.specs.Content.{can_be_made}
use Rattle.yd_doc.specs.Editing.{IsEdit}
use Rattle.yd_doc.specs.Kept.{Kept, received_of, own_document}
use Rattle.yd_undo.specs.declared.entry.Entry.{Entry}
use Rattle.yd_undo.specs.Entry.{undo_entry}
use Rattle.yd_undo.specs.Remade.{seen_of}
use Rattle.yd_undo.specs.Steps.{undo_steps}
use Rattle.yd_restoring.specs.Again.{contents, AreAgain}
use Rattle.yd_restoring.specs.Each.{EachUndoShows, EditsAreUndone, HasPlace, IsEntryOf, IsLive, RemovesLive}
use Rattle.yd_restoring.specs.Law.{shows_again}
use Rattle.yd_restoring.proofs.EachLemmas.{each_shows}
use Rattle.yd_restoring.proofs.EditUndoneLemmas.{not_deleted, of_then, quiet_then, same_contents}
use Rattle.yd_restoring.proofs.MomentLemmas.{edit_document, edit_done, edit_made, edit_received, edit_valid, undo_is, undo_makes}
use Rattle.yd_restoring.proofs.ShowsLemmas.{seen_in}

module _ (old new : Kept) (own : IsReplicaDocument (own_document old) (received_of old)) (own_then : IsReplicaDocument (own_document new) (received_of new))
    (proper : (e : Entry) → Each IsProper (undo_steps (seen_of old) e)) where
  module _ (name : DocList) (e : Entry) (update : UpdateValue) (quiet : IsQuietText (received_of old) name) (is : IsEdit old new (undo_steps (seen_of old) e) update) where
    abbrev steps : List Step
    steps = undo_steps (seen_in old.client (received_of old)) e

    defined : own_document old ≡ document_of (received_of old)
    defined = own.defined quiet.honest

    is_undo : IsEdit old new steps update
    is_undo = undo_is old defined e new update is

    makes : Each MakesContent steps
    makes = undo_makes old defined e (proper e)

    undo_shown : IsEntryOf (received_of old) e → HasPlace (received_of old) name → IsLive (received_of new) name →
        AreAgain (contents (live_units (own_document new) name)) (contents (filter (shows_again (own_document old) e) ((own_document old).units name)))
    undo_shown of place live =
        subst (λ (d : Document). AreAgain (contents (live_units d name)) (contents (filter (shows_again (own_document old) e) ((own_document old).units name))))
        (sym (edit_document old defined new steps update is_undo name quiet makes own_then))
        (subst (λ (d : Document). AreAgain (contents (live_units (document_of (after_edit old.client (received_of old) steps)) name))
        (contents (filter (shows_again d e) (d.units name)))) (sym defined)
        (each_shows old.client (received_of old) name quiet e of place makes (edit_done old defined new steps update is_undo)
        (not_deleted (after_edit old.client (received_of old) steps) name (subst (λ (r : Received). IsLive r name) (edit_received old defined new steps update is_undo) live))))

  -- ---- lemmas for callers

  pub each_undo_shown : EachUndoShows old new
  each_undo_shown name e update quiet of place is live = undo_shown name e update quiet is of place live

module _ (old mid new : Kept) (own_old : IsReplicaDocument (own_document old) (received_of old)) (own_mid : IsReplicaDocument (own_document mid) (received_of mid))
    (own_new : IsReplicaDocument (own_document new) (received_of new)) (proper_mid : (e : Entry) → Each IsProper (undo_steps (seen_of mid) e)) where
  module _ (name : DocList) (edit : List Step) (noted : List Span) (update : UpdateValue) (quiet : IsQuietText (received_of old) name) (can : Each MakesContent edit)
      (is : IsEdit old mid edit update) (dead : (x : Id) → HasId noted x → HasId (received_of old).deletes x) (removes : RemovesLive old name edit)
      (live : IsLive (received_of mid) name) where
    abbrev before : Received
    before = received_of old

    defined_old : own_document old ≡ document_of (received_of old)
    defined_old = own_old.defined quiet.honest

    same : received_of mid ≡ after_edit old.client (received_of old) edit
    same = edit_received old defined_old mid edit update is

    removes_live : (o : Operation) → IsIn o ((document_of (received_of old)).units name) → HasId (removed_by edit) o.id →
        ((document_of (received_of old)).deleted o.id ≡ false) × (can_be_made o.content ≡ true)
    removes_live = subst (λ (d : Document). (o : Operation) → IsIn o (d.units name) → HasId (removed_by edit) o.id → (d.deleted o.id ≡ false) × (can_be_made o.content ≡ true))
        defined_old removes

    live_mid : IsLive (after_edit old.client (received_of old) edit) name
    live_mid = subst (λ (r : Received). IsLive r name) same live

    quiet_mid : IsQuietText (received_of mid) name
    quiet_mid = subst (λ (r : Received). IsQuietText r name) (sym same)
        (quiet_then old.client before name quiet edit can (edit_done old defined_old mid edit update is) (edit_valid old defined_old mid edit update is) noted live_mid)

    of_mid : IsEntryOf (received_of mid) (undo_entry noted update)
    of_mid = subst (λ (r : Received). IsEntryOf r (undo_entry noted update)) (sym same)
        (subst (λ (u : UpdateValue). IsEntryOf (after_edit old.client (received_of old) edit) (undo_entry noted u)) (sym (edit_made old defined_old mid edit update is))
        (of_then old.client before name quiet edit can (edit_done old defined_old mid edit update is) (edit_valid old defined_old mid edit update is) noted live_mid))

    document_mid : own_document mid ≡ document_of (after_edit old.client (received_of old) edit)
    document_mid = edit_document old defined_old mid edit update is name quiet can own_mid

    shown_mid : contents (filter (shows_again (own_document mid) (undo_entry noted update)) ((own_document mid).units name)) ≡ contents (live_units (own_document old) name)
    shown_mid = (λ i. contents (filter (shows_again (document_mid i) (undo_entry noted (edit_made old defined_old mid edit update is i))) ((document_mid i).units name)))
        ∙ same_contents old.client before name quiet edit can (edit_done old defined_old mid edit update is) (edit_valid old defined_old mid edit update is) noted live_mid
        dead removes_live
        ∙ ap (λ (d : Document). contents (live_units d name)) (sym defined_old)

    undone_shown : HasPlace (received_of mid) name → (undone : UpdateValue) → IsEdit mid new (undo_steps (seen_of mid) (undo_entry noted update)) undone → IsLive (received_of new) name →
        AreAgain (contents (live_units (own_document new) name)) (contents (live_units (own_document old) name))
    undone_shown place undone again live_new = subst (λ us. AreAgain (contents (live_units (own_document new) name)) us) shown_mid
        (each_undo_shown mid new own_mid own_new proper_mid name (undo_entry noted update) undone quiet_mid of_mid place again live_new)

  pub edit_undone : EditsAreUndone old mid new
  edit_undone name edit noted update undone quiet can is dead removes place live again live_new =
      undone_shown name edit noted update quiet can is dead removes live place undone again live_new
