-- What an edit of a text shows in a replica: the text is quiet, so the edit rules are kept, and the replica's document is the defined one before and after.
use Rattle.std.proofs.Common.{◌≡◌, List, ◌++◌, take, drop, None, sym, ap, ap₂, ◌∙◌, subst}
use Rattle.yd_ops.specs.Operation.{Operation}
use Rattle.yd_ops.specs.Value.{UpdateValue}
use Rattle.yd_ops.specs.Received.{Received, received_after}
use Rattle.yd_meaning.specs.Document.{Document, document_of}
use Rattle.yd_meaning.specs.Held.{held_set}
use Rattle.yd_meaning.specs.Order.{AreHonest}
use Rattle.yd_meaning.specs.Replica.{IsReplicaDocument}
use Rattle.yd_editing.specs.Basis.{Basis, basis_of, basis_over}
use Rattle.yd_editing.specs.Law.{IsHonestHeld, after_edit, made_by}
use Rattle.yd_editing.specs.Made.{update_of_edit}
use Rattle.yd_editing.specs.Others.{OtherListsStay}
use Rattle.yd_editing.specs.Step.{Step}
use Rattle.yd_editing.specs.TextEdit.{counted_units, insert_steps, delete_steps, format_steps, insert_refusal, delete_refusal, format_refusal}
use Rattle.yd_editing.specs.TextLaw.{InsertsStand, DeletesStand, FormatsStand, with_values}
use Rattle.yd_doc.specs.Editing.{own_basis, IsEdit}
use Rattle.yd_doc.specs.Kept.{Kept, received_of, own_document}
use Rattle.yd_text.specs.Law.{InsertionsShow, DeletionsShow, FormatsShow, values_in}

-- the edit rules are kept by what is all held and honest
pub held_honest : (os : List Operation) → IsHonestHeld os → AreHonest (held_set os)
held_honest os is = subst (λ held. AreHonest held) (sym is.whole) is.honest

-- so where all is held and honest that a replica received, its document is the defined one
pub document_after : (new : Kept) → IsReplicaDocument (own_document new) (received_of new) → (r : Received) → received_of new ≡ r → IsHonestHeld r.operations →
    document_of r ≡ own_document new
document_after new is r same held = sym (is.defined (subst (λ (s : Received). AreHonest (held_set s.operations)) (sym same) (held_honest r.operations held)) ∙ ap document_of same)

-- where the edit rules are kept, an edit reads of a replica what it reads of what this received
module _ (old : Kept) (is : IsReplicaDocument (own_document old) (received_of old)) (honest : AreHonest (held_set (received_of old).operations)) where
  abbrev before : Received
  before = received_of old

  pub defined : own_document old ≡ document_of before
  defined = is.defined honest

  pub basis_same : own_basis old ≡ basis_of old.client before
  basis_same = ap (λ (document : Document). basis_over old.client document (received_of old)) defined

  module _ (new : Kept) (steps : Document → List Step) (update : UpdateValue) (edit : IsEdit old new (steps (own_document old)) update) where
    -- what is received then is what is received after the edit
    pub received_then : received_of new ≡ after_edit old.client before (steps (document_of before))
    received_then = edit.received
        ∙ ap (received_after before) (edit.made ∙ ap₂ (λ (basis : Basis) (document : Document). update_of_edit basis (steps document)) basis_same defined)

    -- and so is the document, where all is held and honest after the edit
    pub document_then : IsReplicaDocument (own_document new) (received_of new) → IsHonestHeld (after_edit old.client before (steps (document_of before))).operations →
        document_of (after_edit old.client before (steps (document_of before))) ≡ own_document new
    document_then is_then held = document_after new is_then (after_edit old.client before (steps (document_of before))) received_then held

    -- so what is true of the defined documents is true of those of the replica
    pub told_then : (P : Document → Document → Type 0) → IsReplicaDocument (own_document new) (received_of new) →
        IsHonestHeld (after_edit old.client before (steps (document_of before))).operations →
        P (document_of before) (document_of (after_edit old.client before (steps (document_of before)))) → P (own_document old) (own_document new)
    told_then P is_then held p = subst (λ (d : Document). P (own_document old) d) (document_then is_then held)
        (subst (λ (d : Document). P d (document_of (after_edit old.client before (steps (document_of before))))) (sym defined) p)

-- ---- lemmas for callers

module _ (old new : Kept) (is : IsReplicaDocument (own_document old) (received_of old)) (is_then : IsReplicaDocument (own_document new) (received_of new)) where
  pub inserted_shown : InsertsStand → InsertionsShow old new
  inserted_shown law name index content update quiet makeable counted accepted edit =
      let same = basis_same old is quiet.honest in
      let stands = law old.client (received_of old) name index content quiet makeable counted (subst (λ (b : Basis). insert_refusal b name index content ≡ None) same accepted) in
      let steps : Document → List Step = λ document. insert_steps document name index content in
      let made : List Operation = made_by old.client (received_of old) (steps (document_of (received_of old))) in
      let all = stands.held.all_held in
      record {
        held = subst (λ (r : Received). IsHonestHeld r.operations) (sym (received_then old is quiet.honest new steps update edit)) all;
        made = made;
        contents_are = stands.contents;
        units = told_then old is quiet.honest new steps update edit
            (λ d e. counted_units e name ≡ take index (counted_units d name) ++ (made ++ drop index (counted_units d name))) is_then all stands.counted;
        others = told_then old is quiet.honest new steps update edit (λ d e. OtherListsStay d e name) is_then all stands.others;
        deleted = λ x. told_then old is quiet.honest new steps update edit (λ d e. e.deleted x ≡ d.deleted x) is_then all (stands.deleted x);
      }

  pub deleted_shown : DeletesStand → DeletionsShow old new
  deleted_shown law name index len update quiet accepted edit =
      let same = basis_same old is quiet.honest in
      let stands = law old.client (received_of old) name index len quiet (subst (λ (b : Basis). delete_refusal b name index len ≡ None) same accepted) in
      let steps : Document → List Step = λ document. delete_steps document name index len in
      let all = stands.held.all_held in
      record {
        held = subst (λ (r : Received). IsHonestHeld r.operations) (sym (received_then old is quiet.honest new steps update edit)) all;
        units = told_then old is quiet.honest new steps update edit
            (λ d e. counted_units e name ≡ take index (counted_units d name) ++ drop len (drop index (counted_units d name))) is_then all stands.counted;
        others = told_then old is quiet.honest new steps update edit (λ d e. OtherListsStay d e name) is_then all stands.others;
      }

  pub formatted_shown : FormatsStand → FormatsShow old new
  formatted_shown law name index len key value update quiet accepted edit =
      let same = basis_same old is quiet.honest in
      let stands = law old.client (received_of old) name index len key value quiet (subst (λ (b : Basis). format_refusal b name index len key value ≡ None) same accepted) in
      let steps : Document → List Step = λ document. format_steps document name index len key value in
      let all = stands.held.all_held in
      record {
        held = subst (λ (r : Received). IsHonestHeld r.operations) (sym (received_then old is quiet.honest new steps update edit)) all;
        own = told_then old is quiet.honest new steps update edit
            (λ d e. values_in e name key ≡ with_values value index len (values_in d name key)) is_then all stands.own;
        keys = λ other differs. told_then old is quiet.honest new steps update edit
            (λ d e. values_in e name other ≡ values_in d name other) is_then all (stands.keys other differs);
        others = told_then old is quiet.honest new steps update edit (λ d e. OtherListsStay d e name) is_then all stands.others;
      }
