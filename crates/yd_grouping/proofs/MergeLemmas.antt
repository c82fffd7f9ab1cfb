-- Merges: what is received of a merge is what was received of its updates, whole or in parts.
use Rattle.std.proofs.Common.{◌≡◌, ◌↔◌, List, [], ◌∷◌, ◌++◌, inl, inr, refl, sym, ap, ◌∙◌, subst}
use Rattle.yd_words.specs.Each.{Each}
use Rattle.yd_ids.specs.Set.{HasId}
use Rattle.yd_ids.specs.declared.id.Id.{Id}
use Rattle.yd_ops.specs.Operation.{operations_of}
use Rattle.yd_ops.specs.Valid.{IsValidUpdate}
use Rattle.yd_ops.specs.Value.{UpdateValue}
use Rattle.yd_ops.specs.Agreement.{AreAlike, DeleteId, HaveSameContents, operations_of_all}
use Rattle.yd_ops.specs.Deletes.{SpellLess, deletes_of}
use Rattle.yd_ops.specs.Received.{Received, nothing_received, received_after, received_more, received_set}
use Rattle.yd_ops.proofs.AgreementLemmas.{received_deletes, received_one}
use Rattle.yd_ops.proofs.GroupLemmas.{deletes_of-ids}
use Rattle.yd_ops.proofs.MergingLemmas.{merging_keeps}
use Rattle.yd_ops.proofs.ReceivedLemmas.{set_is_received}
use Rattle.yd_grouping.specs.Grouped.{IsGrouped}
use Rattle.yd_grouping.specs.Merged.{merge_of, received_grouped}
use Rattle.yd_grouping.proofs.GroupableLemmas.{received_groupable}
use Rattle.yd_grouping.proofs.GroupedLemmas.{groupable-operations, grouping_grouped, grouping_valid}

pub merge-operations : (updates : List UpdateValue) → Each IsValidUpdate updates → operations_of (merge_of updates) ≡ (received_set updates).operations
merge-operations updates valid = groupable-operations (received_set updates).operations (received_set updates).deletes (received_groupable updates valid)

pub merge_valid : (updates : List UpdateValue) → Each IsValidUpdate updates → IsValidUpdate (merge_of updates)
merge_valid updates valid = grouping_valid (received_set updates).operations (received_set updates).deletes (received_groupable updates valid) (set_is_received updates valid).maximal

pub merge_grouped : (updates : List UpdateValue) → Each IsValidUpdate updates → IsGrouped (merge_of updates)
merge_grouped updates valid = grouping_grouped (received_set updates).operations (received_set updates).deletes (received_groupable updates valid)

-- receiving the merge is receiving all
pub merge_received : (updates : List UpdateValue) → Each IsValidUpdate updates → received_set (merge_of updates ∷ []) ≡ received_set updates
merge_received updates valid = merging_keeps updates (merge_of updates) valid (merge_valid updates valid) (merge-operations updates valid) refl

more-append : (r : Received) (updates others : List UpdateValue) → received_more r (updates ++ others) ≡ received_more (received_more r updates) others
more-append r [] others = refl
more-append r (update ∷ updates) others = more-append (received_after r update) updates others

-- also where others come after it
pub merge_first : (updates others : List UpdateValue) → Each IsValidUpdate updates → received_set (merge_of updates ∷ others) ≡ received_set (updates ++ others)
merge_first updates others valid = ap (λ r. received_more r others) (merge_received updates valid) ∙ sym (more-append nothing_received updates others)

-- a merge of updates with the same contents is the same
pub merge_any_order : (one other : List UpdateValue) → Each IsValidUpdate one → Each IsValidUpdate other → AreAlike (operations_of_all one) →
    HaveSameContents one other → merge_of one ≡ merge_of other
merge_any_order one other valid also alike same = ap received_grouped (received_one one other valid also alike same)

-- a merge deletes what its updates delete
pub merge_deletes : (updates : List UpdateValue) → Each IsValidUpdate updates → (x : Id) → HasId (deletes_of (merge_of updates)) x ↔ DeleteId updates x
merge_deletes updates valid x = (
  (λ h. (received_deletes updates x).0 (elim ((deletes_of-ids (merge_of updates) x).0 h) [
    | inl less ↦ (set_is_received updates valid).named x (subst (λ os. SpellLess os x) (merge-operations updates valid) less)
    | inr k ↦ k
  ])),
  (λ h. (deletes_of-ids (merge_of updates) x).1 (inr ((received_deletes updates x).1 h))),
)
