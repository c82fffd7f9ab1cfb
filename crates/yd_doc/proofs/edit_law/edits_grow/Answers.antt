use Rattle.std.proofs.Common.{◌∙◌, inl, inr, ap, subst}
use Rattle.yd_words.specs.Member.{IsIn}
use Rattle.yd_ops.specs.Operation.{operations_of}
use Rattle.yd_state.specs.State.{document_in}
use Rattle.yd_state.proofs.LentLemmas.{document_replica}
use Rattle.yd_doc.specs.Editing.{own_basis, EditsGrow}
use Rattle.yd_doc.specs.Kept.{Kept, received_of, own_document}
use Rattle.yd_doc.proofs.GrowingEditLemmas.{steps_full, full_lowers_none}
use Rattle.yd_doc.proofs.edit_law.edits_grow.Goals as goal

pub returns : goal.returns
returns c =
    let r : Kept = record { client = c.replica.inside.client; is_behind = c.replica.inside.is_behind; state = c.replica.inside.state } in
    let sound = c.received-received.ensures.sound in
    subst EditsGrow c.replica.view_is (λ new steps update makes is.
    let taken = c.own_edits_are_taken.ensures r.client (document_in r.state) (received_of r) steps sound.received (document_replica r.state sound) makes is.accepted in
    elim is.grows.loses [
      | inl none ↦ is.grows.grows none
      | inr lowers ↦ absurd (full_lowers_none (operations_of update) (received_of r).operations (λ o i.
          steps_full r.client ((own_basis r).vector r.client.0) (own_document r).units steps makes o (subst (IsIn o) (ap operations_of is.made ∙ taken.made) i)) lowers)
    ])
