-- Structs taken one after another: the order of writing, whole pairs and their right origins stay, and what all operations have stays too.
use Rattle.std.proofs.Common.{◌≡◌, true, false, List, [], ◌∷◌, ◌++◌, ◌⊎◌, inl, inr, refl, sym, ap, ◌∙◌, subst, arith}
use Rattle.yd_words.specs.Each.{Each}
use Rattle.yd_words.specs.Member.{IsIn}
use Rattle.yd_words.proofs.MemberLemmas.{in_left_part, in_right_part}
use Rattle.yd_ops.specs.Operation.{Operation, level_of}
use Rattle.yd_ops.specs.Pairs.{as_torn}
use Rattle.yd_ops.specs.Received.{has_operation, IsWritten, lowered, taken_in, all_taken, mended, with_group, with_groups}
use Rattle.yd_ops.specs.ReceivedLaw.{IsTakenWith, HaveOneRight}
use Rattle.yd_ops.proofs.OneOfLemmas.{id_not_there}
use Rattle.yd_ops.proofs.LevelLemmas.{level_at_most, half_full, as_level-level, lowered_either}
use Rattle.yd_ops.proofs.PartnerLemmas.{AreOnePair, IsHalf, partners_decide, pair_flip, pair_half, one_partner}
use Rattle.yd_ops.proofs.WritingLemmas.{IsTaken, taken_is, taken_written}
use Rattle.yd_ops.proofs.MendingLemmas.{HasPartners, torn_no_half, mended_is, mended_written, mended_partners}
use Rattle.yd_ops.proofs.GroupLemmas.{all_of}
use Rattle.yd_ops.proofs.TakingLemmas.{all_taken_written, with_group_is}

pub with_groups-append : (groups others : List (List Operation)) (taken : List Operation) → with_groups (groups ++ others) taken ≡ with_groups others (with_groups groups taken)
with_groups-append [] others taken = refl
with_groups-append (group ∷ groups) others taken = with_groups-append groups others (with_group group taken)

pub groups_written : (groups : List (List Operation)) (taken : List Operation) → IsWritten taken → IsWritten (with_groups groups taken)
groups_written [] taken w = w
groups_written (group ∷ groups) taken w = groups_written groups (with_group group taken) (mended_written (all_taken group taken) (all_taken_written group taken w))

pub groups_paired : (groups : List (List Operation)) (taken : List Operation) → HasPartners taken → HasPartners (with_groups groups taken)
groups_paired [] taken partners = partners
groups_paired (group ∷ groups) taken partners = groups_paired groups (with_group group taken) (mended_partners (all_taken group taken))

-- what holds of all that is there and of all that comes, and stays as operations are lowered and torn, holds then
module _ (P : Operation → Type 0) (lowers : (p o : Operation) → P p → P o → p.id ≡ o.id → P (lowered p o)) (tears : (o : Operation) → IsHalf o.content → P o → P (as_torn true o)) where
  all_hold : (news taken : List Operation) → IsWritten taken → ((o : Operation) → IsIn o news → P o) → ((o : Operation) → IsIn o taken → P o) →
      (o : Operation) → IsIn o (all_taken news taken) → P o
  all_hold [] taken w new old = old
  all_hold (o ∷ news) taken w new old = all_hold news (taken_in o taken) (taken_written o taken w) (λ p i. new p (inr i)) (λ p i. one p (taken_is o taken w p i))
    where
      one : (p : Operation) → IsTaken o taken p → P p
      one p (inl (e, none)) = subst P (sym e) (new o (inl refl))
      one p (inr (inl (i, other))) = old p i
      one p (inr (inr (r, i, id, e))) = subst P (sym e) (lowers r o (old r i) (new o (inl refl)) id)

  mended_hold : (os : List Operation) → ((o : Operation) → IsIn o os → P o) → (o : Operation) → IsIn o (mended os) → P o
  mended_hold os old o i = elim (mended_is os o i) [ inl j ↦ old o j | inr (p, j, half, none, e) ↦ subst P (sym e) (tears p half (old p j)) ]

  pub groups_hold : (groups : List (List Operation)) (taken : List Operation) → IsWritten taken → ((o : Operation) → IsIn o (all_of groups) → P o) →
      ((o : Operation) → IsIn o taken → P o) → (o : Operation) → IsIn o (with_groups groups taken) → P o
  groups_hold [] taken w new old = old
  groups_hold (group ∷ groups) taken w new old = groups_hold groups (with_group group taken) (mended_written (all_taken group taken) (all_taken_written group taken w))
      (λ o i. new o (in_right_part o group (all_of groups) i))
      (mended_hold (all_taken group taken) (all_hold group taken w (λ o i. new o (in_left_part o group (all_of groups) i)) old))

-- ---- right origins

full_taken : (group taken : List Operation) (q : Operation) → IsHalf q.content → IsTakenWith group taken q → IsIn q taken ⊎ (IsIn q group × (has_operation taken q.id ≡ false))
full_taken group taken q half (inl (i, none)) = inl i
full_taken group taken q half (inr (inl b)) = inr b
full_taken group taken q half (inr (inr (p, o, i, j, id, e))) = elim (lowered_either p o) [
  | inr stays ↦ inl (subst (λ r. IsIn r taken) (sym (e ∙ stays.1)) i)
  | inl falls ↦ absurd (omega (arith, half_full q.content half, ap (λ (r : Operation). level_of r.content) (e ∙ falls.1), as_level-level (level_of o.content) p falls.0, falls.0, level_at_most p.content))
]

module _ (group taken : List Operation) (v : IsWritten group) (own : HasPartners group) (own_rights : HaveOneRight group) (w : IsWritten taken) (partners : HasPartners taken)
    (rights : HaveOneRight taken) where
  whence : (q : Operation) → IsIn q (with_group group taken) → IsHalf q.content → IsIn q taken ⊎ (IsIn q group × (has_operation taken q.id ≡ false))
  whence q i half = elim ((with_group_is group taken v own w partners q).0 i) [
    | inl b ↦ full_taken group taken q half b.0
    | inr (o, is, torn, e) ↦ absurd (torn_no_half o (subst (λ (r : Operation). IsHalf r.content) e half))
  ]

  -- no half that was there has a partner whose id is new
  no_stranger : (q p : Operation) → AreOnePair q p → IsIn q taken → has_operation taken p.id ≡ false → ⊥
  no_stranger q p pair i none = let (t, j, other) = partners q i (pair_half p q (pair_flip q p pair)) in id_not_there taken p.id none t j (one_partner q t p other pair)

  group_rights : HaveOneRight (with_group group taken)
  group_rights high low i j e =
      let pair : AreOnePair high low = inl ((partners_decide high low).0 e) in
      go pair (whence high i (pair_half low high (pair_flip high low pair))) (whence low j (pair_half high low pair))
    where
      go : AreOnePair high low → IsIn high taken ⊎ (IsIn high group × (has_operation taken high.id ≡ false)) → IsIn low taken ⊎ (IsIn low group × (has_operation taken low.id ≡ false)) →
          high.right_origin ≡ low.right_origin
      go pair (inl k) (inl l) = rights high low k l e
      go pair (inl k) (inr l) = absurd (no_stranger high low pair k l.1)
      go pair (inr k) (inl l) = absurd (no_stranger low high (pair_flip high low pair) l k.1)
      go pair (inr k) (inr l) = own_rights high low k.0 l.0 e

pub groups_rights : (groups : List (List Operation)) (taken : List Operation) → Each IsWritten groups → Each HasPartners groups → Each HaveOneRight groups → IsWritten taken → HasPartners taken →
    HaveOneRight taken → HaveOneRight (with_groups groups taken)
groups_rights [] taken v own own_rights w partners rights = rights
groups_rights (group ∷ groups) taken v own own_rights w partners rights = groups_rights groups (with_group group taken) v.1 own.1 own_rights.1
    (mended_written (all_taken group taken) (all_taken_written group taken w)) (mended_partners (all_taken group taken)) (group_rights group taken v.0 own.0 own_rights.0 w partners rights)
