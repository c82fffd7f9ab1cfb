-- What an update brings: it covers all that it spells, and where that was covered it changes nothing, as a repeat does.
use Rattle.std.proofs.Common.{◌≡◌, List, [], ◌∷◌, inl, inr, refl, sym, ap, ◌∙◌, subst, arith}
use Rattle.yd_words.specs.Member.{IsIn}
use Rattle.yd_words.proofs.MemberLemmas.{in_left_part, in_right_part, in_parts}
use Rattle.yd_ids.specs.Set.{union_of}
use Rattle.yd_ids.proofs.UnionLemmas.{union_again, union_groups}
use Rattle.yd_ops.specs.Operation.{Operation, operations_of}
use Rattle.yd_ops.specs.Value.{UpdateValue}
use Rattle.yd_ops.specs.Valid.{IsValidUpdate}
use Rattle.yd_ops.specs.Received.{IsWritten, taken_in, all_taken, mended, with_group, with_groups, groups_of, Received, received_after}
use Rattle.yd_ops.specs.Deletes.{deletes_of}
use Rattle.yd_ops.specs.ReceivedLaw.{IsReceived, IsCovered}
use Rattle.yd_ops.proofs.WritingLemmas.{taken_id, taken_keeps, taken_there, taken_written}
use Rattle.yd_ops.proofs.MendingLemmas.{HasPartners, paired_has, mended_keeps, mended_written, mended_whole}
use Rattle.yd_ops.proofs.GroupLemmas.{all_of, update_groups, deletes_of-maximal}
use Rattle.yd_ops.proofs.TakingLemmas.{all_taken_written}
use Rattle.yd_ops.proofs.ReceivedLemmas.{after_is_received, one_received}

covered_taken : (taken : List Operation) (o p : Operation) → IsWritten taken → IsCovered taken p → IsCovered (taken_in o taken) p
covered_taken taken o p w (q, i, id, le) = let (r, j, same, low) = taken_keeps o taken w q i in (r, j, same ∙ id, omega (arith, le, low))

covered_all : (news taken : List Operation) (p : Operation) → IsWritten taken → IsCovered taken p → IsCovered (all_taken news taken) p
covered_all [] taken p w c = c
covered_all (o ∷ news) taken p w c = covered_all news (taken_in o taken) p (taken_written o taken w) (covered_taken taken o p w c)

covered_news : (news taken : List Operation) (p : Operation) → IsWritten taken → IsIn p news → IsCovered (all_taken news taken) p
covered_news [] taken p w i = absurd i
covered_news (o ∷ news) taken p w (inl e) = covered_all news (taken_in o taken) p (taken_written o taken w) (subst (λ r. IsCovered (taken_in o taken) r) (sym e) (taken_id o taken w))
covered_news (o ∷ news) taken p w (inr i) = covered_news news (taken_in o taken) p (taken_written o taken w) i

covered_mended : (os : List Operation) (p : Operation) → IsCovered os p → IsCovered (mended os) p
covered_mended os p (q, i, id, le) = let (r, j, same, as_much) = mended_keeps os q i in (r, j, same ∙ id, omega (arith, le, as_much))

pub covered_groups : (groups : List (List Operation)) (taken : List Operation) (p : Operation) → IsWritten taken → IsCovered taken p → IsCovered (with_groups groups taken) p
covered_groups [] taken p w c = c
covered_groups (group ∷ groups) taken p w c = covered_groups groups (with_group group taken) p (mended_written (all_taken group taken) (all_taken_written group taken w))
    (covered_mended (all_taken group taken) p (covered_all group taken p w c))

pub groups_cover : (groups : List (List Operation)) (taken : List Operation) → IsWritten taken → (p : Operation) → IsIn p (all_of groups) → IsCovered (with_groups groups taken) p
groups_cover [] taken w p i = absurd i
groups_cover (group ∷ groups) taken w p i = elim (in_parts p group (all_of groups) i) [
  | inl j ↦ covered_groups groups (with_group group taken) p (mended_written (all_taken group taken) (all_taken_written group taken w))
      (covered_mended (all_taken group taken) p (covered_news group taken p w j))
  | inr j ↦ groups_cover groups (with_group group taken) (mended_written (all_taken group taken) (all_taken_written group taken w)) p j
]

all_there : (news taken : List Operation) → IsWritten taken → ((o : Operation) → IsIn o news → IsCovered taken o) → all_taken news taken ≡ taken
all_there [] taken w covered = refl
all_there (o ∷ news) taken w covered =
    let (q, i, id, le) = covered o (inl refl) in
    ap (λ os. all_taken news os) (taken_there o taken w q i id le) ∙ all_there news taken w (λ p j. covered p (inr j))

groups_there : (groups : List (List Operation)) (taken : List Operation) → IsWritten taken → HasPartners taken → ((o : Operation) → IsIn o (all_of groups) → IsCovered taken o) →
    with_groups groups taken ≡ taken
groups_there [] taken w partners covered = refl
groups_there (group ∷ groups) taken w partners covered =
    ap (λ os. with_groups groups os) (ap mended (all_there group taken w (λ o i. covered o (in_left_part o group (all_of groups) i))) ∙ mended_whole taken partners)
    ∙ groups_there groups taken w partners (λ o i. covered o (in_right_part o group (all_of groups) i))

-- an update that has no new id and none that says less changes no operation
pub nothing_new : (r : Received) (update : UpdateValue) → IsReceived r → ((o : Operation) → IsIn o (operations_of update) → IsCovered r.operations o) →
    (received_after r update).operations ≡ r.operations
nothing_new r update is covered = groups_there (groups_of update) r.operations is.written (paired_has r.operations is.paired)
    (λ o i. covered o (subst (λ os. IsIn o os) (update_groups update) i))

pub new_covers : (r : Received) (update : UpdateValue) → IsReceived r → (received_after r update).operations ≡ r.operations → (o : Operation) → IsIn o (operations_of update) →
    IsCovered r.operations o
new_covers r update is same o i = subst (λ os. IsCovered os o) same (groups_cover (groups_of update) r.operations is.written o (subst (λ os. IsIn o os) (sym (update_groups update)) i))

-- an update that is received again changes nothing
pub after_again : (r : Received) (update : UpdateValue) → IsReceived r → IsValidUpdate update → received_after (received_after r update) update ≡ received_after r update
after_again r update is valid = let new = after_is_received r update is valid in one_received (received_after (received_after r update) update) (received_after r update)
    (groups_there (groups_of update) (with_groups (groups_of update) r.operations) new.written (paired_has (with_groups (groups_of update) r.operations) new.paired)
    (groups_cover (groups_of update) r.operations is.written))
    (union_groups r.deletes (deletes_of update) (deletes_of update) is.maximal (deletes_of-maximal update valid) (deletes_of-maximal update valid)
    ∙ ap (λ spans. union_of r.deletes spans) (union_again (deletes_of update) (deletes_of-maximal update valid)))
