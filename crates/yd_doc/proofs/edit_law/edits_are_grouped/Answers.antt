use Rattle.std.proofs.Common.{◌≡◌, None, sym, subst}
use Rattle.yd_editing.specs.Made.{update_of_edit}
use Rattle.yd_editing.specs.Refused.{refusal_of}
use Rattle.yd_grouping.specs.Grouped.{IsGrouped}
use Rattle.yd_state.specs.State.{document_in}
use Rattle.yd_state.proofs.LentLemmas.{document_replica}
use Rattle.yd_making.proofs.GivenLemmas.{ids_in_range}
use Rattle.yd_doc.specs.Editing.{own_basis}
use Rattle.yd_doc.specs.Kept.{Kept, received_of}
use Rattle.yd_doc.proofs.GroupedEditLemmas.{edit_grouped}
use Rattle.yd_doc.proofs.edit_law.edits_are_grouped.Goals as goal

pub returns : goal.returns
returns c = λ steps each makes accepted.
    let r : Kept = record { client = c.replica.inside.client; is_behind = c.replica.inside.is_behind; state = c.replica.inside.state } in
    let sound = c.received-received.ensures.sound in
    let is = document_replica r.state sound in
    let done = subst (λ (k : Kept). refusal_of (own_basis k) steps ≡ None) (sym c.replica.view_is) accepted in
    subst (λ (k : Kept). IsGrouped (update_of_edit (own_basis k) steps)) c.replica.view_is
    (edit_grouped (own_basis r) (received_of r) steps each
    (c.own_edits_are_valid.ensures r.client (document_in r.state) (received_of r) steps sound.received is each c.replica.invariant.client
    (ids_in_range r.client r.state sound) done)
    (c.own_edits_are_taken.ensures r.client (document_in r.state) (received_of r) steps sound.received is makes done))
