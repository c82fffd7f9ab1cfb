-- What an undo shows in a replica, by what it does to what this received.
use Rattle.std.proofs.Common.{◌≡◌, true, List, None, sym, ap, ◌∙◌, subst}
use Rattle.std.specs.Prelude.{filter}
use Rattle.yd_words.specs.Each.{Each}
use Rattle.yd_words.specs.Member.{IsIn}
use Rattle.yd_ids.specs.declared.id.Id.{Id}
use Rattle.yd_ids.specs.declared.id.Span.{Span}
use Rattle.yd_ids.specs.Set.{HasId}
use Rattle.yd_ops.specs.declared.lists.List.{List as DocList}
use Rattle.yd_ops.specs.Operation.{Operation}
use Rattle.yd_ops.specs.Valid.{IsValidUpdate}
use Rattle.yd_ops.specs.Value.{UpdateValue}
use Rattle.yd_ops.specs.Received.{Received}
use Rattle.yd_meaning.specs.Document.{Document, document_of}
use Rattle.yd_meaning.specs.Text.{live_units}
use Rattle.yd_meaning.specs.Replica.{IsReplicaDocument}
use Rattle.yd_editing.specs.Basis.{basis_of}
use Rattle.yd_editing.specs.Law.{MakesContent, after_edit}
use Rattle.yd_editing.specs.Made.{update_of_edit}
use Rattle.yd_editing.specs.Refused.{refusal_of}
use Rattle.yd_editing.specs.Step.{Step}
use Rattle.yd_editing.specs.TextLaw.{IsQuietText}
use Rattle.yd_copying.specs.Content.{can_be_made}
use Rattle.yd_making.specs.Steps.{IsProper}
use Rattle.yd_doc.specs.Editing.{IsEdit}
use Rattle.yd_doc.specs.Kept.{Kept, received_of, own_document}
use Rattle.yd_undo.specs.declared.entry.Entry.{Entry}
use Rattle.yd_undo.specs.Entry.{undo_entry}
use Rattle.yd_undo.specs.Remade.{seen_of}
use Rattle.yd_undo.specs.Steps.{undo_steps}
use Rattle.yd_restoring.specs.Again.{contents, AreAgain}
use Rattle.yd_restoring.specs.Law.{IsOfText, UndosShow, RedosShow, shows_again}
use Rattle.yd_restoring.proofs.MomentLemmas.{edit_document, edit_done, edit_made, edit_received, edit_valid, undo_is, undo_makes}
use Rattle.yd_restoring.proofs.RedoLemmas.{quiet_then, of_then, same_contents}
use Rattle.yd_restoring.proofs.ShowsLemmas.{seen_in, undo_shows}

module _ (old new : Kept) (own : IsReplicaDocument (own_document old) (received_of old)) (own_then : IsReplicaDocument (own_document new) (received_of new))
    (proper : (e : Entry) → Each IsProper (undo_steps (seen_of old) e)) where
  module _ (name : DocList) (e : Entry) (update : UpdateValue) (quiet : IsQuietText (received_of old) name) (is : IsEdit old new (undo_steps (seen_of old) e) update) where
    abbrev steps : List Step
    steps = undo_steps (seen_in old.client (received_of old)) e

    defined : own_document old ≡ document_of (received_of old)
    defined = own.defined quiet.honest

    is_undo : IsEdit old new steps update
    is_undo = undo_is old defined e new update is

    makes : Each MakesContent steps
    makes = undo_makes old defined e (proper e)

    text_shown : IsOfText (received_of old) name e →
        AreAgain (contents (live_units (own_document new) name)) (contents (filter (shows_again (own_document old) e) ((own_document old).units name)))
    text_shown of =
        subst (λ (d : Document). AreAgain (contents (live_units d name)) (contents (filter (shows_again (own_document old) e) ((own_document old).units name))))
        (sym (edit_document old defined new steps update is_undo name quiet makes own_then))
        (subst (λ (d : Document). AreAgain (contents (live_units (document_of (after_edit old.client (received_of old) steps)) name))
        (contents (filter (shows_again d e) (d.units name)))) (sym defined)
        (undo_shows old.client (received_of old) name quiet e of makes (edit_done old defined new steps update is_undo)))

  -- ---- lemmas for callers

  pub undo_shown : UndosShow old new
  undo_shown name e update quiet of is = text_shown name e update quiet is of

-- an undo, and the undo of this
module _ (old mid new : Kept) (own : IsReplicaDocument (own_document old) (received_of old)) (own_mid : IsReplicaDocument (own_document mid) (received_of mid))
    (own_new : IsReplicaDocument (own_document new) (received_of new)) (proper : (e : Entry) → Each IsProper (undo_steps (seen_of old) e))
    (proper_mid : (e : Entry) → Each IsProper (undo_steps (seen_of mid) e)) where
  module _ (name : DocList) (e : Entry) (noted : List Span) (undone redone : UpdateValue) (quiet : IsQuietText (received_of old) name) (of : IsOfText (received_of old) name e)
      (dead : (x : Id) → HasId noted x → HasId (received_of old).deletes x)
      (no_types : (o : Operation) → IsIn o (live_units (own_document old) name) → HasId e.inserted o.id → can_be_made o.content ≡ true)
      (is : IsEdit old mid (undo_steps (seen_of old) e) undone) where
    abbrev first : Received
    first = received_of old

    abbrev steps_first : List Step
    steps_first = undo_steps (seen_in old.client (received_of old)) e

    defined_first : own_document old ≡ document_of (received_of old)
    defined_first = own.defined quiet.honest

    is_undo_first : IsEdit old mid steps_first undone
    is_undo_first = undo_is old defined_first e mid undone is

    is_made : undone ≡ update_of_edit (basis_of old.client first) steps_first
    is_made = edit_made old defined_first mid steps_first undone is_undo_first

    is_received : received_of mid ≡ after_edit old.client first steps_first
    is_received = edit_received old defined_first mid steps_first undone is_undo_first

    makes_first : Each MakesContent steps_first
    makes_first = undo_makes old defined_first e (proper e)

    done_first : refusal_of (basis_of old.client first) steps_first ≡ None
    done_first = edit_done old defined_first mid steps_first undone is_undo_first

    valid : IsValidUpdate (update_of_edit (basis_of old.client first) steps_first)
    valid = edit_valid old defined_first mid steps_first undone is_undo_first

    no_types_first : (o : Operation) → IsIn o (live_units (document_of first) name) → HasId e.inserted o.id → can_be_made o.content ≡ true
    no_types_first = subst (λ (d : Document). (o : Operation) → IsIn o (live_units d name) → HasId e.inserted o.id → can_be_made o.content ≡ true)
        defined_first no_types

    quiet_mid : IsQuietText (received_of mid) name
    quiet_mid = subst (λ (r : Received). IsQuietText r name) (sym is_received)
        (quiet_then old.client first name quiet e of makes_first done_first valid noted dead no_types_first)

    of_mid : IsOfText (received_of mid) name (undo_entry noted undone)
    of_mid = subst (λ (r : Received). IsOfText r name (undo_entry noted undone)) (sym is_received)
        (subst (λ (u : UpdateValue). IsOfText (after_edit old.client first steps_first) name (undo_entry noted u)) (sym is_made)
        (of_then old.client first name quiet e of makes_first done_first valid noted dead no_types_first))

    document_mid : own_document mid ≡ document_of (after_edit old.client first steps_first)
    document_mid = edit_document old defined_first mid steps_first undone is_undo_first name quiet makes_first own_mid

    shown_mid : contents (filter (shows_again (own_document mid) (undo_entry noted undone)) ((own_document mid).units name)) ≡ contents (live_units (own_document old) name)
    shown_mid = (λ i. contents (filter (shows_again (document_mid i) (undo_entry noted (is_made i))) ((document_mid i).units name)))
        ∙ same_contents old.client first name quiet e of makes_first done_first valid noted dead no_types_first
        ∙ ap (λ (d : Document). contents (live_units d name)) (sym defined_first)

    redone_shown : IsEdit mid new (undo_steps (seen_of mid) (undo_entry noted undone)) redone →
        AreAgain (contents (live_units (own_document new) name)) (contents (live_units (own_document old) name))
    redone_shown again = subst (λ us. AreAgain (contents (live_units (own_document new) name)) us) shown_mid
        (undo_shown mid new own_mid own_new proper_mid name (undo_entry noted undone) redone quiet_mid of_mid again)

  -- ---- lemmas for callers

  pub redo_shown : RedosShow old mid new
  redo_shown name e noted undone redone quiet of dead no_types is again = redone_shown name e noted undone redone quiet of dead no_types is again
