-- New operations: what is taken of them is just they, and no pair is torn.
use Rattle.std.proofs.Common.{◌≡◌, ◌↔◌, ◌⊎◌, true, false, List, [], ◌∷◌, ◌++◌, inl, inr, refl, sym, ap, ◌∙◌, subst}
use Rattle.yd_words.specs.Each.{Each}
use Rattle.yd_words.specs.Member.{IsIn}
use Rattle.yd_words.proofs.MemberLemmas.{in_left_part, in_right_part, in_parts}
use Rattle.yd_ids.specs.Ids.{is_written_before}
use Rattle.yd_ids.proofs.IdLemmas.{written_differs}
use Rattle.yd_ops.specs.Operation.{Operation}
use Rattle.yd_ops.specs.Received.{has_operation, IsWritten, taken_in, all_taken, with_groups}
use Rattle.yd_ops.proofs.OneOfLemmas.{id_not_there, none_has}
use Rattle.yd_ops.proofs.WritingLemmas.{taken_is, taken_new, taken_stays, taken_written}
use Rattle.yd_ops.proofs.MendingLemmas.{HasPartners, mended_whole}
use Rattle.yd_ops.proofs.GroupLemmas.{all_of}
use Rattle.yd_editing.proofs.StepLemmas.{taken_append}

-- no operation has an id that is there
abbrev pub AreNew : List Operation → List Operation → Type 0
AreNew os taken = (o : Operation) → IsIn o os → has_operation taken o.id ≡ false

pub written_front : (os ps : List Operation) → IsWritten (os ++ ps) → IsWritten os
written_front [] ps w = tt
written_front (o ∷ os) ps w = ((λ p i. w.0 p (in_left_part p os ps i)), written_front os ps w.1)

pub written_back : (os ps : List Operation) → IsWritten (os ++ ps) → IsWritten ps
written_back [] ps w = w
written_back (o ∷ os) ps w = written_back os ps w.1

pub written_apart : (os ps : List Operation) → IsWritten (os ++ ps) → (o p : Operation) → IsIn o os → IsIn p ps → is_written_before o.id p.id ≡ true
written_apart [] ps w o p i j = absurd i
written_apart (q ∷ qs) ps w o p (inl e) j = subst (λ r. is_written_before r.id p.id ≡ true) (sym e) (w.0 p (in_right_part p qs ps j))
written_apart (q ∷ qs) ps w o p (inr i) j = written_apart qs ps w.1 o p i j

pub written_both : (os ps : List Operation) → IsWritten os → IsWritten ps → ((o p : Operation) → IsIn o os → IsIn p ps → is_written_before o.id p.id ≡ true) →
    IsWritten (os ++ ps)
written_both [] ps v w apart = w
written_both (o ∷ os) ps v w apart = (
  (λ p i. elim (in_parts p os ps i) [ inl j ↦ v.0 p j | inr j ↦ apart o p (inl refl) j ]),
  written_both os ps v.1 w (λ q p i j. apart q p (inr i) j),
)

all_written : (os taken : List Operation) → IsWritten taken → IsWritten (all_taken os taken)
all_written [] taken w = w
all_written (o ∷ os) taken w = all_written os (taken_in o taken) (taken_written o taken w)

-- one new operation
one_is : (o : Operation) (taken : List Operation) → IsWritten taken → has_operation taken o.id ≡ false → (q : Operation) → IsIn q (taken_in o taken) → (q ≡ o) ⊎ IsIn q taken
one_is o taken w none q i = elim (taken_is o taken w q i) [
  | inl b ↦ inl b.0
  | inr c ↦ elim c [ inl b ↦ inr b.0 | inr (p, j, id, e) ↦ absurd (id_not_there taken o.id none p j id) ]
]

-- all that were new are there, with all that was, and nothing else
pub fresh_taken : (os taken : List Operation) → IsWritten os → IsWritten taken → AreNew os taken → (q : Operation) → IsIn q (all_taken os taken) ↔ (IsIn q os ⊎ IsIn q taken)
fresh_taken [] taken v w new q = ((λ i. inr i), (λ b. elim b [ inl i ↦ absurd i | inr i ↦ i ]))
fresh_taken (o ∷ os) taken v w new q = go (fresh_taken os (taken_in o taken) v.1 (taken_written o taken w) still_new q)
  where
    none : has_operation taken o.id ≡ false
    none = new o (inl refl)

    still_new : AreNew os (taken_in o taken)
    still_new p i = none_has (taken_in o taken) p.id (λ r j e. elim (one_is o taken w none r j) [
      | inl f ↦ written_differs o.id p.id (v.0 p i) (sym (ap (λ (s : Operation). s.id) f) ∙ e)
      | inr k ↦ id_not_there taken p.id (new p (inr i)) r k e
    ])

    go : IsIn q (all_taken os (taken_in o taken)) ↔ (IsIn q os ⊎ IsIn q (taken_in o taken)) → IsIn q (all_taken os (taken_in o taken)) ↔ (IsIn q (o ∷ os) ⊎ IsIn q taken)
    go f = (
      (λ i. elim (f.0 i) [ inl j ↦ inl (inr j) | inr j ↦ elim (one_is o taken w none q j) [ inl e ↦ inl (inl e) | inr k ↦ inr k ] ]),
      (λ b. f.1 (elim b [
        | inl c ↦ elim c [ inl e ↦ inr (subst (λ p. IsIn p (taken_in o taken)) (sym e) (taken_new o taken none)) | inr j ↦ inl j ]
        | inr j ↦ inr (taken_stays o taken q j (id_not_there taken o.id none q j))
      ])),
    )

-- whole pairs stay whole
fresh_partners : (os taken : List Operation) → IsWritten os → IsWritten taken → AreNew os taken → HasPartners os → HasPartners taken → HasPartners (all_taken os taken)
fresh_partners os taken v w new own there o i half = elim ((fresh_taken os taken v w new o).0 i) [
  | inl j ↦ let (p, k, pair) = own o j half in (p, (fresh_taken os taken v w new p).1 (inl k), pair)
  | inr j ↦ let (p, k, pair) = there o j half in (p, (fresh_taken os taken v w new p).1 (inr k), pair)
]

-- so struct by struct they are just taken
pub groups_taken : (groups : List (List Operation)) (taken : List Operation) → IsWritten (all_of groups) → IsWritten taken → AreNew (all_of groups) taken →
    Each HasPartners groups → HasPartners taken →
    with_groups groups taken ≡ all_taken (all_of groups) taken
groups_taken [] taken v w new each there = refl
groups_taken (group ∷ groups) taken v w new each there =
    ap (with_groups groups) (mended_whole (all_taken group taken) partners)
    ∙ groups_taken groups (all_taken group taken) (written_back group (all_of groups) v) (all_written group taken w) still_new each.1 partners
    ∙ sym (taken_append group (all_of groups) taken)
  where
    front : IsWritten group
    front = written_front group (all_of groups) v

    front_new : AreNew group taken
    front_new o i = new o (in_left_part o group (all_of groups) i)

    partners : HasPartners (all_taken group taken)
    partners = fresh_partners group taken front w front_new each.0 there

    still_new : AreNew (all_of groups) (all_taken group taken)
    still_new o i = none_has (all_taken group taken) o.id (λ p j e. elim ((fresh_taken group taken front w front_new p).0 j) [
      | inl k ↦ written_differs p.id o.id (written_apart group (all_of groups) v p o k i) e
      | inr k ↦ id_not_there taken o.id (new o (in_right_part o group (all_of groups) i)) p k e
    ])
