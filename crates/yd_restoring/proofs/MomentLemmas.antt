-- An edit and an undo of a replica, as they are of what this received. Where the edit rules are kept, its document is the defined one.
use Rattle.std.proofs.Common.{◌≡◌, List, None, sym, ap, ◌∙◌, subst}
use Rattle.yd_words.specs.Each.{Each}
use Rattle.yd_words.proofs.EachLemmas.{each_weaker}
use Rattle.yd_ops.specs.declared.lists.List.{List as DocList}
use Rattle.yd_ops.specs.Valid.{IsValidUpdate}
use Rattle.yd_ops.specs.Value.{UpdateValue}
use Rattle.yd_ops.specs.Received.{received_after}
use Rattle.yd_meaning.specs.Document.{Document, document_of}
use Rattle.yd_meaning.specs.Replica.{IsReplicaDocument}
use Rattle.yd_making.specs.Standing.{stands_in, list_where}
use Rattle.yd_making.specs.Steps.{IsProper}
use Rattle.yd_editing.specs.Basis.{Basis, basis_over, basis_of}
use Rattle.yd_editing.specs.Law.{MakesContent, after_edit, EditIsHeld}
use Rattle.yd_editing.specs.Made.{update_of_edit}
use Rattle.yd_editing.specs.Refused.{refusal_of}
use Rattle.yd_editing.specs.Step.{Step, make, remove}
use Rattle.yd_editing.specs.TextLaw.{IsQuietText}
use Rattle.yd_editing.proofs.TakenLemmas.{edit_is_held}
use Rattle.yd_doc.specs.Editing.{own_basis, IsEdit}
use Rattle.yd_doc.specs.Kept.{Kept, received_of, own_document}
use Rattle.yd_undo.specs.declared.entry.Entry.{Entry}
use Rattle.yd_undo.specs.Remade.{Seen, seen_of}
use Rattle.yd_undo.specs.Steps.{undo_steps}
use Rattle.yd_text.proofs.ShowingLemmas.{document_after}
use Rattle.yd_restoring.proofs.ShowsLemmas.{seen_in}

pub proper_makes : (step : Step) → IsProper step → MakesContent step
proper_makes (make name after content) is = is.2
proper_makes (remove spans) is = tt

module _ (old : Kept) (defined : own_document old ≡ document_of (received_of old)) where
  basis_is : own_basis old ≡ basis_of old.client (received_of old)
  basis_is = ap (λ (document : Document). basis_over old.client document (received_of old)) defined

  seen_is : seen_of old ≡ seen_in old.client (received_of old)
  seen_is = ap (λ (b : Basis). record { basis = b; list_of = list_where (stands_in (received_of old)) }) basis_is

  -- ---- an edit

  module _ (new : Kept) (steps : List Step) (update : UpdateValue) (is : IsEdit old new steps update) where
    pub edit_done : refusal_of (basis_of old.client (received_of old)) steps ≡ None
    edit_done = subst (λ (b : Basis). refusal_of b steps ≡ None) basis_is is.accepted

    pub edit_made : update ≡ update_of_edit (basis_of old.client (received_of old)) steps
    edit_made = is.made ∙ ap (λ (b : Basis). update_of_edit b steps) basis_is

    pub edit_received : received_of new ≡ after_edit old.client (received_of old) steps
    edit_received = is.received ∙ ap (received_after (received_of old)) edit_made

    pub edit_valid : IsValidUpdate (update_of_edit (basis_of old.client (received_of old)) steps)
    edit_valid = subst (λ (u : UpdateValue). IsValidUpdate u) edit_made is.valid

    -- the document then, where a text is quiet before
    pub edit_document : (name : DocList) → IsQuietText (received_of old) name → Each MakesContent steps → IsReplicaDocument (own_document new) (received_of new) →
        own_document new ≡ document_of (after_edit old.client (received_of old) steps)
    edit_document name quiet makes own = sym (document_after new own (after_edit old.client (received_of old) steps) edit_received stands.all_held)
      where
        stands : EditIsHeld old.client (received_of old) steps
        stands = edit_is_held old.client (received_of old) steps quiet.received makes edit_done quiet.whole quiet.honest

  -- ---- an undo

  module _ (e : Entry) where
    pub undo_makes : Each IsProper (undo_steps (seen_of old) e) → Each MakesContent (undo_steps (seen_in old.client (received_of old)) e)
    undo_makes proper = subst (λ (s : Seen). Each MakesContent (undo_steps s e)) seen_is (each_weaker IsProper MakesContent proper_makes (undo_steps (seen_of old) e) proper)

    pub undo_is : (new : Kept) (update : UpdateValue) → IsEdit old new (undo_steps (seen_of old) e) update →
        IsEdit old new (undo_steps (seen_in old.client (received_of old)) e) update
    undo_is new update is = subst (λ (s : Seen). IsEdit old new (undo_steps s e) update) seen_is is
