-- What is grouped is received as it is, so merging and cutting again change nothing.
use Rattle.std.proofs.Common.{◌≡◌, ℕ, List, [], ◌∷◌, inl, inr, sym, ap, ◌∙◌, subst}
use Rattle.yd_words.specs.Each.{Each}
use Rattle.yd_words.specs.Member.{IsIn}
use Rattle.yd_words.proofs.FilterLemmas.{filter-all}
use Rattle.yd_ids.specs.Set.{AreMaximal, HasId}
use Rattle.yd_ids.specs.declared.id.Id.{Id}
use Rattle.yd_ids.specs.declared.id.Span.{Span}
use Rattle.yd_ids.proofs.UnionLemmas.{sets_same}
use Rattle.yd_ops.specs.Operation.{Operation, operations_of}
use Rattle.yd_ops.specs.Valid.{IsValidUpdate}
use Rattle.yd_ops.specs.Value.{UpdateValue}
use Rattle.yd_ops.specs.Deletes.{SpellLess}
use Rattle.yd_ops.specs.Received.{IsWritten, Received, received_set}
use Rattle.yd_ops.proofs.AgreementLemmas.{received_deletes, received_maximal, received_written}
use Rattle.yd_ops.proofs.GroupLemmas.{deletes_of-ids}
use Rattle.yd_ops.proofs.MergingLemmas.{merged_back, merged_there}
use Rattle.yd_ops.proofs.ReceivedLemmas.{one_received, set_is_received}
use Rattle.yd_ops.proofs.WritingLemmas.{written_alone}
use Rattle.yd_grouping.specs.Groupable.{AreGroupable}
use Rattle.yd_grouping.specs.Grouped.{IsGrouped, grouping_of}
use Rattle.yd_grouping.specs.Merged.{cut_of, cut_update, is_cut_in, merge_of, received_grouped}
use Rattle.yd_grouping.proofs.CutLemmas.{IsKept, behind_kept, cut_groupable, cut_is, cut_passes}
use Rattle.yd_grouping.proofs.GroupableLemmas.{received_groupable}
use Rattle.yd_grouping.proofs.GroupedLemmas.{groupable-operations, grouping_valid}
use Rattle.yd_grouping.proofs.MergeLemmas.{merge_received}

-- the deletions name all that is spelled less than full
abbrev NameLess : List Operation → List Span → Type 0
NameLess os deletes = (x : Id) → SpellLess os x → HasId deletes x

pub update_alone : (update : UpdateValue) → IsValidUpdate update → IsWritten (operations_of update) → ((x : Id) → SpellLess (operations_of update) x → HasId update.deletes x) →
    received_set (update ∷ []) ≡ record { operations = operations_of update; deletes = update.deletes }
update_alone update valid w names = one_received (received_set (update ∷ [])) (record { operations = operations_of update; deletes = update.deletes })
    (written_alone (received_set (update ∷ [])).operations (operations_of update) (received_written (update ∷ [])) w (merged_there update valid w) (merged_back update valid w))
    (sets_same (received_set (update ∷ [])).deletes update.deletes (received_maximal (update ∷ []) (valid, tt)) valid.deletes (λ x. (
      (λ h. elim ((received_deletes (update ∷ []) x).0 h) [ inl k ↦ elim ((deletes_of-ids update x).0 k) [ inl less ↦ names x less | inr l ↦ l ] | inr k ↦ absurd k ]),
      (λ h. (received_deletes (update ∷ []) x).1 (inl ((deletes_of-ids update x).1 (inr h)))),
    )))

-- what is grouped is received as it is
pub grouping_alone : (os : List Operation) (deletes : List Span) → AreGroupable os → AreMaximal deletes → ((x : Id) → SpellLess os x → HasId deletes x) →
    received_set (grouping_of os deletes ∷ []) ≡ record { operations = os; deletes = deletes }
grouping_alone os deletes are maximal names =
    update_alone (grouping_of os deletes) (grouping_valid os deletes are maximal) (subst (λ ps. IsWritten ps) (sym same) are.written)
    (subst (λ ps. NameLess ps deletes) (sym same) names)
    ∙ ap (λ (ps : List Operation). record { operations = ps; deletes = deletes }) same
  where
    same : operations_of (grouping_of os deletes) ≡ os
    same = groupable-operations os deletes are

-- a grouped update that names what it spells less is its own merge
pub grouped_itself : (update : UpdateValue) → IsValidUpdate update → IsWritten (operations_of update) → ((x : Id) → SpellLess (operations_of update) x → HasId update.deletes x) →
    IsGrouped update → merge_of (update ∷ []) ≡ update
grouped_itself update valid w names grouped = ap received_grouped (update_alone update valid w names) ∙ sym grouped

pub merge_again : (updates : List UpdateValue) → Each IsValidUpdate updates → merge_of (merge_of updates ∷ []) ≡ merge_of updates
merge_again updates valid = ap received_grouped (merge_received updates valid)

-- ---- a cut again

cut_cut : (os : List Operation) (vector : ℕ → ℕ) → AreGroupable os → cut_of (cut_of os vector) vector ≡ cut_of os vector
cut_cut os vector are = filter-all (is_cut_in (cut_of os vector) vector) (cut_of os vector) (λ o i. cut_passes (cut_of os vector) vector o (there o ((cut_is os vector o).0 i)))
  where
    there : (o : Operation) → IsIn o os × IsKept os vector o → IsKept (cut_of os vector) vector o
    there o (i, inl le) = inl le
    there o (i, inr (p, j, pair, e)) = inr (p, behind_kept os vector are o p j pair (inr (p, j, pair, e)), pair, e)

pub cut_again : (update : UpdateValue) (vector : ℕ → ℕ) → IsValidUpdate update → cut_update (cut_update update vector) vector ≡ cut_update update vector
cut_again update vector valid = ap (λ (r : Received). grouping_of (cut_of r.operations vector) r.deletes) alone
    ∙ ap (λ os. grouping_of os (received_set (update ∷ [])).deletes) (cut_cut (received_set (update ∷ [])).operations vector are)
  where
    are : AreGroupable (received_set (update ∷ [])).operations
    are = received_groupable (update ∷ []) (valid, tt)

    alone : received_set (cut_update update vector ∷ []) ≡ record {
      operations = cut_of (received_set (update ∷ [])).operations vector;
      deletes = (received_set (update ∷ [])).deletes;
    }
    alone = grouping_alone (cut_of (received_set (update ∷ [])).operations vector) (received_set (update ∷ [])).deletes
        (cut_groupable (received_set (update ∷ [])).operations vector are)
        (set_is_received (update ∷ []) (valid, tt)).maximal
        (λ x less. let (o, i, e, low) = less in (set_is_received (update ∷ []) (valid, tt)).named x (o, ((cut_is (received_set (update ∷ [])).operations vector o).0 i).0, e, low))
