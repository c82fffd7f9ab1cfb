-- Which ids a merge has: those of its updates, and of each something that says no more.
use Rattle.std.proofs.Common.{◌≡◌, ◌↔◌, Bool, true, false, cond, List, [], ◌∷◌, map, inl, inr, sym, ◌∙◌, subst}
use Rattle.yd_words.specs.Each.{Each}
use Rattle.yd_words.specs.Member.{IsIn}
use Rattle.yd_words.proofs.MemberLemmas.{each_in, in_each, in_parts}
use Rattle.yd_ids.specs.Ids.{is_same, is_written_before}
use Rattle.yd_ids.specs.declared.id.Id.{Id}
use Rattle.yd_ops.specs.Operation.{Operation, operations_of}
use Rattle.yd_ops.specs.Valid.{IsValidUpdate}
use Rattle.yd_ops.specs.Value.{UpdateValue}
use Rattle.yd_ops.specs.Agreement.{operations_of_all}
use Rattle.yd_ops.specs.ReceivedLaw.{IsCovered, IsReceived}
use Rattle.yd_ops.specs.Pairs.{as_torn, is_alone}
use Rattle.yd_ops.specs.Received.{Received, all_taken, groups_of, has_operation, lowered, nothing_received, received_after, received_more, received_set, taken_in, with_group, with_groups}
use Rattle.yd_ops.proofs.CoveringLemmas.{covered_groups, groups_cover}
use Rattle.yd_ops.proofs.GroupLemmas.{all_of, update_groups}
use Rattle.yd_ops.proofs.LevelLemmas.{lowered-id}
use Rattle.yd_ops.proofs.MendingLemmas.{as_torn-id}
use Rattle.yd_ops.proofs.OneOfLemmas.{id_is_there, id_there, operation_with}
use Rattle.yd_ops.proofs.ReceivedLemmas.{after_is_received, nothing_is_received}
use Rattle.yd_grouping.specs.Merged.{merge_of}
use Rattle.yd_grouping.proofs.MergeLemmas.{merge-operations}
use Rattle.yd_grouping.proofs.ValidLemmas.{each_parts}

-- of each operation that came one is there that says no more
covered_more : (r : Received) (us : List UpdateValue) (o : Operation) → IsReceived r → Each IsValidUpdate us → IsCovered r.operations o → IsCovered (received_more r us).operations o
covered_more r [] o is valid c = c
covered_more r (u ∷ us) o is valid c = covered_more (received_after r u) us o (after_is_received r u is valid.0) valid.1 (covered_groups (groups_of u) r.operations o is.written c)

pub all_covered : (r : Received) (us : List UpdateValue) (o : Operation) → IsReceived r → Each IsValidUpdate us → IsIn o (operations_of_all us) →
    IsCovered (received_more r us).operations o
all_covered r [] o is valid i = absurd i
all_covered r (u ∷ us) o is valid i = elim (in_parts o (operations_of u) (operations_of_all us) i) [
  | inl j ↦ covered_more (received_after r u) us o (after_is_received r u is valid.0) valid.1
      (groups_cover (groups_of u) r.operations is.written o (subst (λ os. IsIn o os) (sym (update_groups u)) j))
  | inr j ↦ all_covered (received_after r u) us o (after_is_received r u is valid.0) valid.1 j
]

-- a test on ids that all that comes passes is passed by all that is there
module _ (Q : Id → Type 0) where
  abbrev OfId : Operation → Type 0
  OfId o = Q o.id

  taken_ids : (o : Operation) (os : List Operation) → OfId o → Each OfId os → Each OfId (taken_in o os)
  taken_ids o [] q each = (q, tt)
  taken_ids o (p ∷ ps) q each = go (is_same o.id p.id) (is_written_before o.id p.id) (taken_ids o ps q each.1)
    where
      go : (s t : Bool) → Each OfId (taken_in o ps) → Each OfId (cond s (lowered p o ∷ ps) (cond t (o ∷ p ∷ ps) (p ∷ taken_in o ps)))
      go true t rest = (subst Q (sym (lowered-id p o)) each.0, each.1)
      go false true rest = (q, each)
      go false false rest = (each.0, rest)

  all_ids : (os taken : List Operation) → Each OfId os → Each OfId taken → Each OfId (all_taken os taken)
  all_ids [] taken each also = also
  all_ids (o ∷ os) taken each also = all_ids os (taken_in o taken) each.1 (taken_ids o taken each.0 also)

  mended_ids : (all os : List Operation) → Each OfId os → Each OfId (map (λ o. as_torn (is_alone all o) o) os)
  mended_ids all [] each = tt
  mended_ids all (o ∷ os) each = (subst Q (sym (as_torn-id (is_alone all o) o)) each.0, mended_ids all os each.1)

  groups_ids : (groups : List (List Operation)) (taken : List Operation) → Each OfId (all_of groups) → Each OfId taken → Each OfId (with_groups groups taken)
  groups_ids [] taken each also = also
  groups_ids (group ∷ groups) taken each also = let (front, back) = each_parts OfId group (all_of groups) each in
      groups_ids groups (with_group group taken) back (mended_ids (all_taken group taken) (all_taken group taken) (all_ids group taken front also))

  more_ids : (r : Received) (updates : List UpdateValue) → Each OfId (operations_of_all updates) → Each OfId r.operations → Each OfId (received_more r updates).operations
  more_ids r [] each also = also
  more_ids r (update ∷ updates) each also = let (front, back) = each_parts OfId (operations_of update) (operations_of_all updates) each in
      more_ids (received_after r update) updates back (groups_ids (groups_of update) r.operations (subst (λ os. Each OfId os) (sym (update_groups update)) front) also)

-- a merge has the ids of its updates
pub merge_ids : (updates : List UpdateValue) → Each IsValidUpdate updates → (x : Id) → has_operation (operations_of (merge_of updates)) x ≡ true
    ↔ has_operation (operations_of_all updates) x ≡ true
merge_ids updates valid x = (
  (λ e. let (o, i, same) = operation_with (operations_of (merge_of updates)) x e in
      subst (λ y. has_operation (operations_of_all updates) y ≡ true) same (each_in (λ p. has_operation (operations_of_all updates) p.id ≡ true) (received_set updates).operations
      (more_ids (λ y. has_operation (operations_of_all updates) y ≡ true) nothing_received updates
      (in_each (λ p. has_operation (operations_of_all updates) p.id ≡ true) (operations_of_all updates) (λ p j. id_is_there (operations_of_all updates) p j)) tt)
      o (subst (λ os. IsIn o os) (merge-operations updates valid) i))),
  (λ e. let (o, i, same) = operation_with (operations_of_all updates) x e in
      let (q, j, id, le) = all_covered nothing_received updates o nothing_is_received valid i in
      id_there (operations_of (merge_of updates)) q x (subst (λ os. IsIn q os) (sym (merge-operations updates valid)) j) (id ∙ same)),
)
