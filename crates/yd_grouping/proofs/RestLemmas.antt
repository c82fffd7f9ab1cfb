-- What lies below a cut: it can be grouped, and with the cut it gives the whole.
use Rattle.std.specs.Prelude.{not}
use Rattle.std.proofs.Common.{◌≡◌, ◌↔◌, ℕ, Bool, true, false, List, [], ◌∷◌, ◌++◌, ◌⊎◌, inl, inr, refl, sym, ap, ◌∙◌, subst, true≢false, append-nil}
use Rattle.yd_words.specs.Member.{IsIn}
use Rattle.yd_words.proofs.FilterLemmas.{kept_one, one_kept}
use Rattle.yd_words.proofs.MemberLemmas.{each_in, in_each, in_left_part, in_parts, in_right_part}
use Rattle.yd_ids.specs.Set.{HasId}
use Rattle.yd_ids.specs.declared.id.Id.{Id}
use Rattle.yd_ops.specs.Operation.{Operation, operations_of}
use Rattle.yd_ops.specs.Valid.{IsValidUpdate}
use Rattle.yd_ops.specs.Value.{UpdateValue}
use Rattle.yd_ops.specs.Agreement.{AreAlike, DeleteId, HaveSameContents, operations_of_all}
use Rattle.yd_ops.specs.Deletes.{deletes_of}
use Rattle.yd_ops.specs.Received.{received_set}
use Rattle.yd_ops.proofs.AgreementLemmas.{received_one}
use Rattle.yd_ops.proofs.MendingLemmas.{HasPartners, has_paired, paired_has}
use Rattle.yd_ops.proofs.PartnerLemmas.{AreOnePair, one_partner, pair_flip, pair_half}
use Rattle.yd_ops.proofs.WritingLemmas.{written_agrees}
use Rattle.yd_grouping.specs.Groupable.{AreGroupable, IsValidOperation}
use Rattle.yd_grouping.specs.Merged.{cut_of, cut_update, is_cut_in, merge_of, rest_of}
use Rattle.yd_grouping.proofs.CutLemmas.{cut-operations, cut_deletes, cut_groupable, cut_valid, filter_written}
use Rattle.yd_grouping.proofs.GroupableLemmas.{received_groupable}
use Rattle.yd_grouping.proofs.MergeLemmas.{merge-operations, merge_deletes, merge_received, merge_valid}

-- ---- which operations these are

not_passed : (t : Bool) → not t ≡ true → t ≡ false
not_passed true e = absurd (true≢false (sym e))
not_passed false e = refl

pub rest_is : (os : List Operation) (vector : ℕ → ℕ) (o : Operation) → IsIn o (rest_of os vector) ↔ (IsIn o os × (is_cut_in os vector o ≡ false))
rest_is os vector o = (
  (λ i. let (e, j) = kept_one (λ p. not (is_cut_in os vector p)) os o i in (j, not_passed (is_cut_in os vector o) e)),
  (λ f. one_kept (λ p. not (is_cut_in os vector p)) os o (ap not f.1) f.0),
)

-- each operation is in the cut or below it
in_one : (os : List Operation) (vector : ℕ → ℕ) (o : Operation) → IsIn o os → IsIn o (rest_of os vector) ⊎ IsIn o (cut_of os vector)
in_one os vector o i = go (is_cut_in os vector o) refl
  where
    go : (t : Bool) → is_cut_in os vector o ≡ t → IsIn o (rest_of os vector) ⊎ IsIn o (cut_of os vector)
    go true e = inr (one_kept (is_cut_in os vector) os o e i)
    go false e = inl ((rest_is os vector o).1 (i, e))

-- ---- they can be grouped

module _ (os : List Operation) (vector : ℕ → ℕ) (are : AreGroupable os) where
  -- the partner of one below the cut is below it
  partner_below : (o p : Operation) → IsIn o os → IsIn p os → AreOnePair o p → is_cut_in os vector o ≡ false → is_cut_in os vector p ≡ false
  partner_below o p i j pair out = go (is_cut_in os vector p) refl
    where
      go : (t : Bool) → is_cut_in os vector p ≡ t → is_cut_in os vector p ≡ false
      go false e = e
      go true e =
          let (q, k, also) = paired_has (cut_of os vector) (cut_groupable os vector are).paired p (one_kept (is_cut_in os vector) os p e j) (pair_half o p pair) in
          let (passes, l) = kept_one (is_cut_in os vector) os q k in
          let same = written_agrees os are.written q o l i (one_partner p q o also (pair_flip o p pair)) in
          absurd (true≢false (sym passes ∙ ap (is_cut_in os vector) same ∙ out))

  rest_partners : HasPartners (rest_of os vector)
  rest_partners o i half = let (j, out) = (rest_is os vector o).0 i in let (p, k, pair) = paired_has os are.paired o j half in
      (p, (rest_is os vector p).1 (k, partner_below o p j k pair out), pair)

  pub rest_groupable : AreGroupable (rest_of os vector)
  rest_groupable = record {
    written = filter_written (λ p. not (is_cut_in os vector p)) os are.written;
    valid = in_each IsValidOperation (rest_of os vector) (λ o i. each_in IsValidOperation os are.valid o ((rest_is os vector o).0 i).0);
    paired = has_paired (rest_of os vector) rest_partners;
    rights = λ high low i j e. are.rights high low ((rest_is os vector high).0 i).0 ((rest_is os vector low).0 j).0 e;
  }

-- ---- with the cut they are the whole

module _ (update below : UpdateValue) (vector : ℕ → ℕ) (valid : IsValidUpdate update) (below_valid : IsValidUpdate below)
    (rest : operations_of below ≡ rest_of (received_set (update ∷ [])).operations vector) (deletes : (x : Id) → HasId (deletes_of below) x → HasId (deletes_of update) x) where
  abbrev os : List Operation
  os = (received_set (update ∷ [])).operations

  abbrev both : List UpdateValue
  both = below ∷ cut_update update vector ∷ []

  there : (o : Operation) → IsIn o (operations_of_all both) → IsIn o os
  there o i = elim (in_parts o (operations_of below) (operations_of (cut_update update vector) ++ []) i) [
    | inl j ↦ ((rest_is os vector o).0 (subst (λ ps. IsIn o ps) rest j)).0
    | inr j ↦ (kept_one (is_cut_in os vector) os o (subst (λ ps. IsIn o ps) (append-nil (operations_of (cut_update update vector)) ∙ cut-operations update vector valid) j)).1
  ]

  back : (o : Operation) → IsIn o os → IsIn o (operations_of_all both)
  back o i = elim (in_one os vector o i) [
    | inl j ↦ in_left_part o (operations_of below) (operations_of (cut_update update vector) ++ []) (subst (λ ps. IsIn o ps) (sym rest) j)
    | inr j ↦ in_right_part o (operations_of below) (operations_of (cut_update update vector) ++ [])
        (subst (λ ps. IsIn o ps) (sym (append-nil (operations_of (cut_update update vector)) ∙ cut-operations update vector valid)) j)
  ]

  one_of_id : (o p : Operation) → IsIn o (operations_of_all both) → IsIn p (operations_of_all both) → o.id ≡ p.id → o ≡ p
  one_of_id o p i j e = written_agrees os (received_groupable (update ∷ []) (valid, tt)).written o p (there o i) (there p j) e

  alike : AreAlike (operations_of_all both)
  alike = record {
    lefts = λ o p s. ap (λ (q : Operation). q.left_origin) (one_of_id o p s.one s.other s.id);
    rights = λ o p s. ap (λ (q : Operation). q.right_origin) (one_of_id o p s.one s.other s.id);
    lists = λ o p s. ap (λ (q : Operation). q.list) (one_of_id o p s.one s.other s.id);
    contents = λ o p s. ap (λ (q : Operation). q.content) (one_of_id o p s.one s.other s.id);
  }

  merged : operations_of_all (merge_of (update ∷ []) ∷ []) ≡ os
  merged = append-nil (operations_of (merge_of (update ∷ []))) ∙ merge-operations (update ∷ []) (valid, tt)

  deleted_there : (x : Id) → DeleteId both x → HasId (deletes_of update) x
  deleted_there x (inl h) = deletes x h
  deleted_there x (inr (inl h)) = (cut_deletes update vector valid x).0 h
  deleted_there x (inr (inr h)) = absurd h

  same : HaveSameContents both (merge_of (update ∷ []) ∷ [])
  same = record {
    operations = λ o. (
      (λ i. subst (λ ps. IsIn o ps) (sym merged) (there o i)),
      (λ i. back o (subst (λ ps. IsIn o ps) merged i)),
    );
    deletes = λ x. (
      (λ d. inl ((merge_deletes (update ∷ []) (valid, tt) x).1 (inl (deleted_there x d)))),
      (λ d. elim d [
        | inl h ↦ elim ((merge_deletes (update ∷ []) (valid, tt) x).0 h) [ inl k ↦ inr (inl ((cut_deletes update vector valid x).1 k)) | inr k ↦ absurd k ]
        | inr h ↦ absurd h
      ]),
    );
  }

  pub cut_whole : received_set (below ∷ cut_update update vector ∷ []) ≡ received_set (update ∷ [])
  cut_whole = received_one both (merge_of (update ∷ []) ∷ []) (below_valid, (cut_valid update vector valid, tt)) (merge_valid (update ∷ []) (valid, tt), tt) alike same
      ∙ merge_received (update ∷ []) (valid, tt)
