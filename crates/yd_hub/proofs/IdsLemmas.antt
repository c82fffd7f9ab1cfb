-- The ids after an update: those that were there, and those of the update.
use Rattle.std.proofs.Common.{◌≡◌, ◌⊎◌, ◌↔◌, true, List, [], ◌∷◌, ◌++◌, inl, inr, refl, sym, ap, ◌∙◌, subst, arith}
use Rattle.yd_words.specs.Member.{IsIn}
use Rattle.yd_ids.specs.declared.id.Id.{Id}
use Rattle.yd_ops.specs.Operation.{Operation, operations_of}
use Rattle.yd_ops.specs.Value.{UpdateValue}
use Rattle.yd_ops.specs.Pairs.{is_alone, as_torn}
use Rattle.yd_ops.specs.Received.{has_operation, IsWritten, taken_in, all_taken, with_group, with_groups, groups_of, Received, received_after}
use Rattle.yd_ops.specs.ReceivedLaw.{IsReceived, IsCovered}
use Rattle.yd_ops.proofs.OneOfLemmas.{operation_with, id_there}
use Rattle.yd_ops.proofs.LevelLemmas.{lowered-id}
use Rattle.yd_ops.proofs.WritingLemmas.{taken_is, taken_written}
use Rattle.yd_ops.proofs.TakingLemmas.{all_taken_written}
use Rattle.yd_ops.proofs.MendingLemmas.{in_map, as_torn-id, mended_written}
use Rattle.yd_ops.proofs.GroupLemmas.{all_of, update_groups}
use Rattle.yd_ops.proofs.CoveringLemmas.{covered_groups, groups_cover}
use Rattle.yd_words.proofs.MemberLemmas.{in_left_part, in_right_part}

-- one of the two lists has the id
abbrev HasEither : List Operation → List Operation → Operation → Type 0
HasEither news taken q = (p : Operation) × (IsIn p news ⊎ IsIn p taken) × (q.id ≡ p.id)

all_taken_ids : (news taken : List Operation) → IsWritten taken → (q : Operation) → IsIn q (all_taken news taken) → HasEither news taken q
all_taken_ids [] taken w q i = (q, inr i, refl)
all_taken_ids (o ∷ os) taken w q i = let (p, side, same) = all_taken_ids os (taken_in o taken) (taken_written o taken w) q i in go p side same
  where
    go : (p : Operation) → IsIn p os ⊎ IsIn p (taken_in o taken) → q.id ≡ p.id → HasEither (o ∷ os) taken q
    go p (inl j) same = (p, inl (inr j), same)
    go p (inr j) same = elim (taken_is o taken w p j) [
      | inl (e, new) ↦ (o, inl (inl refl), same ∙ ap (λ (r : Operation). r.id) e)
      | inr c ↦ elim c [
        | inl (k, differs) ↦ (p, inr k, same)
        | inr (r, k, id, e) ↦ (r, inr k, same ∙ ap (λ (s : Operation). s.id) e ∙ lowered-id r o)
      ]
    ]

group_ids : (group taken : List Operation) → IsWritten taken → (q : Operation) → IsIn q (with_group group taken) → HasEither group taken q
group_ids group taken w q i =
    let news = all_taken group taken in
    let (o, j, e) = in_map (λ o. as_torn (is_alone news o) o) news q i in
    let (p, side, same) = all_taken_ids group taken w o j in
    (p, side, ap (λ (r : Operation). r.id) e ∙ as_torn-id (is_alone news o) o ∙ same)

group_written : (group taken : List Operation) → IsWritten taken → IsWritten (with_group group taken)
group_written group taken w = mended_written (all_taken group taken) (all_taken_written group taken w)

groups_ids : (groups : List (List Operation)) (taken : List Operation) → IsWritten taken → (q : Operation) → IsIn q (with_groups groups taken) → HasEither (all_of groups) taken q
groups_ids [] taken w q i = (q, inr i, refl)
groups_ids (group ∷ groups) taken w q i = let (p, side, same) = groups_ids groups (with_group group taken) (group_written group taken w) q i in go p side same
  where
    go : (p : Operation) → IsIn p (all_of groups) ⊎ IsIn p (with_group group taken) → q.id ≡ p.id → HasEither (group ++ all_of groups) taken q
    go p (inl j) same = (p, inl (in_right_part p group (all_of groups) j), same)
    go p (inr j) same = let (r, side, e) = group_ids group taken w p j in last r side (same ∙ e)
      where
        last : (r : Operation) → IsIn r group ⊎ IsIn r taken → q.id ≡ r.id → HasEither (group ++ all_of groups) taken q
        last r (inl k) e = (r, inl (in_left_part r group (all_of groups) k), e)
        last r (inr k) e = (r, inr k, e)

pub after_ids : (r : Received) (update : UpdateValue) → IsReceived r → (x : Id) →
    has_operation (received_after r update).operations x ≡ true ↔ ((has_operation r.operations x ≡ true) ⊎ (has_operation (operations_of update) x ≡ true))
after_ids r update is x = (there, back)
  where
    after : List Operation
    after = (received_after r update).operations

    there : has_operation (received_after r update).operations x ≡ true → (has_operation r.operations x ≡ true) ⊎ (has_operation (operations_of update) x ≡ true)
    there e =
        let (q, i, same) = operation_with (received_after r update).operations x e in
        let (p, side, id) = groups_ids (groups_of update) r.operations is.written q i in
        go p side (sym id ∙ same)
      where
        go : (p : Operation) → IsIn p (all_of (groups_of update)) ⊎ IsIn p r.operations → p.id ≡ x → (has_operation r.operations x ≡ true) ⊎ (has_operation (operations_of update) x ≡ true)
        go p (inl j) f = inr (id_there (operations_of update) p x (subst (λ os. IsIn p os) (update_groups update) j) f)
        go p (inr j) f = inl (id_there r.operations p x j f)

    covered : (o : Operation) → IsCovered (received_after r update).operations o → o.id ≡ x → has_operation (received_after r update).operations x ≡ true
    covered o (q, i, id, le) same = id_there (received_after r update).operations q x i (id ∙ same)

    back : (has_operation r.operations x ≡ true) ⊎ (has_operation (operations_of update) x ≡ true) → has_operation (received_after r update).operations x ≡ true
    back (inl e) = let (o, i, f) = operation_with r.operations x e in covered o (covered_groups (groups_of update) r.operations o is.written (o, i, refl, omega arith)) f
    back (inr e) = let (o, i, f) = operation_with (operations_of update) x e in
        covered o (groups_cover (groups_of update) r.operations is.written o (subst (λ os. IsIn o os) (sym (update_groups update)) i)) f
