-- An update that has just what is received gives it again: no id stands twice in it, so nothing is lowered and nothing is torn.
use Rattle.std.proofs.Common.{◌≡◌, List, [], ◌∷◌, inl, inr, sym, ap, subst, arith}
use Rattle.yd_words.specs.Each.{Each}
use Rattle.yd_words.specs.Member.{IsIn}
use Rattle.yd_words.proofs.MemberLemmas.{in_left_part, in_parts}
use Rattle.yd_ids.specs.Set.{HasId}
use Rattle.yd_ids.proofs.UnionLemmas.{sets_same}
use Rattle.yd_ops.specs.Operation.{Operation, operations_of, level_of}
use Rattle.yd_ops.specs.Value.{UpdateValue}
use Rattle.yd_ops.specs.Valid.{IsValidUpdate}
use Rattle.yd_ops.specs.Received.{IsWritten, received_set}
use Rattle.yd_ops.specs.Agreement.{operations_of_all, AreAlike}
use Rattle.yd_ops.specs.Deletes.{SpellLess}
use Rattle.yd_ops.proofs.LevelLemmas.{half_full}
use Rattle.yd_ops.proofs.PartnerLemmas.{pair_half}
use Rattle.yd_ops.proofs.WritingLemmas.{written_agrees, written_alone}
use Rattle.yd_ops.proofs.GroupLemmas.{deletes_of-ids}
use Rattle.yd_ops.proofs.ReceivingLemmas.{IsBereft}
use Rattle.yd_ops.proofs.ReceivedLemmas.{one_received, set_is_received}
use Rattle.yd_ops.proofs.AgreementLemmas.{received_written, received_maximal, received_deletes, received_like}

module _ (merged : UpdateValue) (valid : IsValidUpdate merged) (w : IsWritten (operations_of merged)) where
  abbrev os : List Operation
  os = operations_of_all (merged ∷ [])

  in_it : (o : Operation) → IsIn o os → IsIn o (operations_of merged)
  in_it o i = elim (in_parts o (operations_of merged) [] i) [ inl j ↦ j | inr j ↦ absurd j ]

  one : (o p : Operation) → IsIn o os → IsIn p os → o.id ≡ p.id → o ≡ p
  one o p i j e = written_agrees (operations_of merged) w o p (in_it o i) (in_it p j) e

  alike : AreAlike os
  alike = record {
    lefts = λ o p share. ap (λ (q : Operation). q.left_origin) (one o p share.one share.other share.id);
    rights = λ o p share. ap (λ (q : Operation). q.right_origin) (one o p share.one share.other share.id);
    lists = λ o p share. ap (λ (q : Operation). q.list) (one o p share.one share.other share.id);
    contents = λ o p share. ap (λ (q : Operation). q.content) (one o p share.one share.other share.id);
  }

  not_bereft : (o : Operation) → IsBereft os o → ⊥
  not_bereft o (p, i, pair, (s, j, e, low)) = absurd (omega (arith, low, half_full p.content (pair_half o p pair), ap (λ (q : Operation). level_of q.content) (one s p j i e)))

  -- its operations are received as they are
  pub merged_there : (q : Operation) → IsIn q (received_set (merged ∷ [])).operations → IsIn q (operations_of merged)
  merged_there q i = elim ((received_like (merged ∷ []) (valid, tt) alike q).0 i) [
    | inl b ↦ in_it q b.0
    | inr (o, j, least, bereft, e) ↦ absurd (not_bereft o bereft)
  ]

  pub merged_back : (q : Operation) → IsIn q (operations_of merged) → IsIn q (received_set (merged ∷ [])).operations
  merged_back q i = let j : IsIn q os = in_left_part q (operations_of merged) [] i in (received_like (merged ∷ []) (valid, tt) alike q).1
      (inl (j, (λ p k e. omega (arith, ap (λ (r : Operation). level_of r.content) (one q p j k e))), not_bereft q))

-- ---- lemmas for callers

pub merging_keeps : (updates : List UpdateValue) (merged : UpdateValue) → Each IsValidUpdate updates → IsValidUpdate merged →
    operations_of merged ≡ (received_set updates).operations → merged.deletes ≡ (received_set updates).deletes → received_set (merged ∷ []) ≡ received_set updates
merging_keeps updates merged valid is operations deletes = one_received (received_set (merged ∷ [])) (received_set updates)
    (written_alone (received_set (merged ∷ [])).operations (received_set updates).operations (received_written (merged ∷ [])) (received_written updates)
    (λ q i. subst (λ ps. IsIn q ps) operations (merged_there merged is w q i)) (λ q i. merged_back merged is w q (subst (λ ps. IsIn q ps) (sym operations) i)))
    (sets_same (received_set (merged ∷ [])).deletes (received_set updates).deletes (received_maximal (merged ∷ []) (is, tt)) (received_maximal updates valid) (λ x. (
      (λ h. elim ((received_deletes (merged ∷ []) x).0 h) [
        | inr k ↦ absurd k
        | inl k ↦ elim ((deletes_of-ids merged x).0 k) [
          | inl less ↦ (set_is_received updates valid).named x (subst (λ ps. SpellLess ps x) operations less)
          | inr l ↦ subst (λ spans. HasId spans x) deletes l
        ]
      ]),
      (λ h. (received_deletes (merged ∷ []) x).1 (inl ((deletes_of-ids merged x).1 (inr (subst (λ spans. HasId spans x) (sym deletes) h))))),
    )))
  where
    w : IsWritten (operations_of merged)
    w = subst (λ ps. IsWritten ps) (sym operations) (received_written updates)
