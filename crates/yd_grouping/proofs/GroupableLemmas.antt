-- What can be grouped: all that is received of valid updates, and a valid update in the order of writing.
use Rattle.std.proofs.Common.{◌≡◌, List, [], ◌∷◌, inl, inr, sym, ap, ◌∙◌, subst}
use Rattle.yd_words.specs.Each.{Each}
use Rattle.yd_words.specs.Member.{IsIn}
use Rattle.yd_words.proofs.MemberLemmas.{in_left_part, in_parts, in_right_part}
use Rattle.yd_ops.specs.Operation.{ArePartners, IsHighUnit, Operation, operations_of}
use Rattle.yd_ops.specs.Valid.{IsValidUpdate}
use Rattle.yd_ops.specs.Value.{UpdateValue}
use Rattle.yd_ops.specs.ReceivedLaw.{HaveOneRight, IsReceived}
use Rattle.yd_ops.specs.Received.{IsWritten, Received, groups_of, received_after, received_set}
use Rattle.yd_ops.proofs.GroupLemmas.{all_of, all_partners, update_groups, update_partners, update_rights}
use Rattle.yd_ops.proofs.MendingLemmas.{HasPartners, has_paired}
use Rattle.yd_ops.proofs.PartnerLemmas.{high_partner, partners_decide}
use Rattle.yd_ops.proofs.ReceivedLemmas.{after_is_received, set_is_received}
use Rattle.yd_ops.proofs.WritingLemmas.{written_agrees}
use Rattle.yd_grouping.specs.Groupable.{AreGroupable}
use Rattle.yd_grouping.proofs.ValidLemmas.{after_valid, operations_valid, received_valid}

-- ---- what is received

-- what is received can be grouped
pub received_groupable : (updates : List UpdateValue) → Each IsValidUpdate updates → AreGroupable (received_set updates).operations
received_groupable updates valid = let is = set_is_received updates valid in
    record { written = is.written; valid = received_valid updates valid; paired = is.paired; rights = is.rights }

pub after_groupable : (r : Received) (update : UpdateValue) → IsReceived r → AreGroupable r.operations → IsValidUpdate update → AreGroupable (received_after r update).operations
after_groupable r update is are valid = let after = after_is_received r update is valid in
    record { written = after.written; valid = after_valid r update valid are.valid; paired = after.paired; rights = after.rights }

-- ---- valid updates in the order of writing

-- a half has its partner in its own struct, with the same right origin
one_right : (groups : List (List Operation)) → Each HasPartners groups → Each HaveOneRight groups → (high : Operation) → IsIn high (all_of groups) → IsHighUnit high.content →
    (q : Operation) × IsIn q (all_of groups) × ArePartners high q × (high.right_origin ≡ q.right_origin)
one_right [] partners rights high i is = absurd i
one_right (group ∷ groups) partners rights high i is = elim (in_parts high group (all_of groups) i) [
  | inl j ↦ let (q, k, pair) = partners.0 high j (inl is) in let behind : ArePartners high q = high_partner high q is pair in
      (q, in_left_part q group (all_of groups) k, behind, rights.0 high q j k ((partners_decide high q).1 behind))
  | inr j ↦ let (q, k, pair, same) = one_right groups partners.1 rights.1 high j is in (q, in_right_part q group (all_of groups) k, pair, same)
]

-- the operations of a valid update can be grouped, where they are in the order of writing
pub written_groupable : (update : UpdateValue) → IsValidUpdate update → IsWritten (operations_of update) → AreGroupable (operations_of update)
written_groupable update valid w = record {
  written = w;
  valid = operations_valid update valid;
  paired = has_paired (operations_of update) (subst (λ os. HasPartners os) (update_groups update) (all_partners (groups_of update) (update_partners update valid)));
  rights = rights;
}
  where
    rights : HaveOneRight (operations_of update)
    rights high low i j e = let pair : ArePartners high low = (partners_decide high low).0 e in
        let (q, k, other, same) = one_right (groups_of update) (update_partners update valid) (update_rights update) high
        (subst (λ os. IsIn high os) (sym (update_groups update)) i) pair.high_half in
        same ∙ ap (λ (o : Operation). o.right_origin) (written_agrees (operations_of update) w q low (subst (λ os. IsIn q os) (update_groups update) k)
        j (other.next_clock ∙ sym pair.next_clock))
