-- What an edit of a map shows in a replica: the map is quiet, so the edit rules are kept, and the replica's document is the defined one before and after.
use Rattle.std.proofs.Common.{◌≡◌, List, Some, None, sym, subst}
use Rattle.yd_ops.specs.Received.{Received}
use Rattle.yd_meaning.specs.Document.{Document}
use Rattle.yd_meaning.specs.Replica.{IsReplicaDocument}
use Rattle.yd_shown.specs.Shown.{unit_under}
use Rattle.yd_editing.specs.Basis.{Basis}
use Rattle.yd_editing.specs.Law.{IsHonestHeld}
use Rattle.yd_editing.specs.Step.{Step}
use Rattle.yd_editing.specs.MapEdit.{set_steps, unset_steps, set_refusal, unset_refusal}
use Rattle.yd_editing.specs.MapLaw.{OthersStay, SetsStand, UnsetsStand}
use Rattle.yd_doc.specs.Kept.{Kept, received_of, own_document}
use Rattle.yd_text.proofs.ShowingLemmas.{basis_same, received_then, document_then, told_then}
use Rattle.yd_text.specs.TreeLaw.{SettingsShow, RemovalsShow}

module _ (old new : Kept) (is : IsReplicaDocument (own_document old) (received_of old)) (is_then : IsReplicaDocument (own_document new) (received_of new)) where
  pub set_shown : SetsStand → SettingsShow old new
  set_shown law parent key content unit update quiet makeable one counted accepted edit =
      let stands = law old.client (received_of old) parent key content unit quiet makeable one counted
      (subst (λ (b : Basis). set_refusal b parent key content ≡ None) (basis_same old is quiet.honest) accepted) in
      let steps : Document → List Step = λ document. set_steps document parent key content in
      let shown = document_then old is quiet.honest new steps update edit is_then stands.held.all_held in
      record {
        held = subst (λ (r : Received). IsHonestHeld r.operations) (sym (received_then old is quiet.honest new steps update edit)) stands.held.all_held;
        made = stands.made;
        content = stands.content;
        under = subst (λ (d : Document). unit_under d parent key ≡ Some stands.made) shown stands.under;
        others = told_then old is quiet.honest new steps update edit (λ d e. OthersStay d e parent key) is_then stands.held.all_held stands.others;
      }

  pub unset_shown : UnsetsStand → RemovalsShow old new
  unset_shown law parent key update quiet accepted edit =
      let stands = law old.client (received_of old) parent key quiet
      (subst (λ (b : Basis). unset_refusal b parent key ≡ None) (basis_same old is quiet.honest) accepted) in
      let steps : Document → List Step = λ document. unset_steps document parent key in
      let shown = document_then old is quiet.honest new steps update edit is_then stands.held.all_held in
      record {
        held = subst (λ (r : Received). IsHonestHeld r.operations) (sym (received_then old is quiet.honest new steps update edit)) stands.held.all_held;
        under = subst (λ (d : Document). unit_under d parent key ≡ None) shown stands.under;
        others = told_then old is quiet.honest new steps update edit (λ d e. OthersStay d e parent key) is_then stands.held.all_held stands.others;
      }
