use Rattle.std.proofs.Common.{◌≡◌, None, sym, subst}
use Rattle.yd_editing.specs.Law.{EditIsTakenOn}
use Rattle.yd_editing.specs.Refused.{refusal_of}
use Rattle.yd_state.specs.State.{document_in}
use Rattle.yd_state.proofs.LentLemmas.{document_replica}
use Rattle.yd_doc.specs.Editing.{own_basis}
use Rattle.yd_doc.specs.Kept.{Kept, received_of}
use Rattle.yd_doc.proofs.edit_law.edits_are_taken.Goals as goal

pub returns : goal.returns
returns c = λ steps makes accepted.
    let r : Kept = record { client = c.replica.inside.client; is_behind = c.replica.inside.is_behind; state = c.replica.inside.state } in
    let sound = c.received-received.ensures.sound in
    subst (λ (k : Kept). EditIsTakenOn (own_basis k) (received_of k) steps) c.replica.view_is
    (c.own_edits_are_taken.ensures r.client (document_in r.state) (received_of r) steps sound.received (document_replica r.state sound) makes
    (subst (λ (k : Kept). refusal_of (own_basis k) steps ≡ None) (sym c.replica.view_is) accepted))
