-- A struct that lowers nothing: what was there stays, and its operations with new ids are added, of a pair with one new half that half torn.
use Rattle.std.proofs.Common.{◌≡◌, ◌↔◌, ◌≤◌, Bool, true, false, ◌||◌, ◌&&◌, List, [], ◌∷◌, ◌⊎◌, inl, inr, refl, sym, ap, ◌∙◌, subst, arith, true≢false}
use Rattle.std.specs.Prelude.{Decides}
use Rattle.std.proofs.lemmas.Bool.{cases_Bool, false_from_ne_true, or_left, or_right, or_from}
use Rattle.std.proofs.lemmas.Bool.Decides.{Decides-or, Decides-like, Decides-and}
use Rattle.yd_words.specs.Member.{IsIn}
use Rattle.yd_ids.specs.declared.id.Id.{Id}
use Rattle.yd_ids.proofs.IdLemmas.{same_numbers}
use Rattle.yd_ops.specs.Operation.{Operation, level_of, later_id, IsHighUnit, IsLowUnit, ArePartners}
use Rattle.yd_ops.specs.Pairs.{are_partners, as_torn}
use Rattle.yd_ops.specs.Received.{has_operation, IsWritten, lowered, all_taken, with_group}
use Rattle.yd_ops.specs.ReceivedLaw.{IsTakenWith, IsTornWith}
use Rattle.yd_ops.proofs.OneOfLemmas.{operation_with, id_there, id_not_there}
use Rattle.yd_ops.proofs.LevelLemmas.{half_full, lowered-id, lowered_not}
use Rattle.yd_ops.proofs.PartnerLemmas.{AreOnePair, IsHalf, pair_decides, pair_flip, pair_half, one_partner, high_partner, low_partner}
use Rattle.yd_ops.proofs.WritingLemmas.{written_alone}
use Rattle.yd_ops.proofs.MendingLemmas.{HasPartners, as_torn-id, mended_is, mended_keeps, mended_written}
use Rattle.yd_ops.proofs.TakingLemmas.{pair_is, is_pair, all_taken_written, all_taken_is, with_group_is}

-- no operation of a group says less than the one of its id that is there
abbrev pub LowersNone : List Operation → List Operation → Type 0
LowersNone group taken = (o p : Operation) → IsIn o group → IsIn p taken → p.id ≡ o.id → level_of p.content ≤ level_of o.content

-- ---- torn halves

-- whether the id of the operation's partner in a group was there
abbrev pub is_torn : List Operation → List Operation → Operation → Bool
is_torn [] taken o = false
is_torn (p ∷ ps) taken o = ((are_partners o p || are_partners p o) && has_operation taken p.id) || is_torn ps taken o

-- the operation has a partner in the group, of which the id was there
abbrev pub IsTornBeside : List Operation → List Operation → Operation → Type 0
IsTornBeside group taken o = (p : Operation) × IsIn p group × AreOnePair o p × (has_operation taken p.id ≡ true)

pub torn_decides : (group taken : List Operation) (o : Operation) → Decides (is_torn group taken o) (IsTornBeside group taken o)
torn_decides [] taken o = ((λ e. absurd (true≢false (sym e))), (λ torn. absurd torn.1))
torn_decides (p ∷ ps) taken o = Decides-like (is_torn (p ∷ ps) taken o) there back
    (Decides-or ((are_partners o p || are_partners p o) && has_operation taken p.id) (is_torn ps taken o)
    (Decides-and (are_partners o p || are_partners p o) (has_operation taken p.id) (pair_decides o p) ((λ e. e), (λ e. e))) (torn_decides ps taken o))
  where
    there : (AreOnePair o p × (has_operation taken p.id ≡ true)) ⊎ IsTornBeside ps taken o → IsTornBeside (p ∷ ps) taken o
    there (inl first) = (p, inl refl, first.0, first.1)
    there (inr (q, i, pair, known)) = (q, inr i, pair, known)

    back : IsTornBeside (p ∷ ps) taken o → (AreOnePair o p × (has_operation taken p.id ≡ true)) ⊎ IsTornBeside ps taken o
    back (q, inl e, pair, known) = inl (subst (λ (r : Operation). AreOnePair o r × (has_operation taken r.id ≡ true)) e (pair, known))
    back (q, inr i, pair, known) = inr (q, i, pair, known)

-- what is no half is not torn
pub other_torn : (group taken : List Operation) (o : Operation) → (IsHalf o.content → ⊥) → is_torn group taken o ≡ false
other_torn group taken o other = false_from_ne_true (is_torn group taken o) (λ e.
    let (p, i, pair, known) = (torn_decides group taken o).0 e in other (pair_half p o (pair_flip o p pair)))

-- a half of a group is torn where the id of its partner was there
pub half_torn : (group taken : List Operation) (o p : Operation) → IsIn p group → AreOnePair o p → is_torn group taken o ≡ has_operation taken p.id
half_torn group taken o p i pair = elim (cases_Bool (has_operation taken p.id)) [
  | inl known ↦ (torn_decides group taken o).1 (p, i, pair, known) ∙ sym known
  | inr none ↦ false_from_ne_true (is_torn group taken o) (λ e.
      let (q, j, other, known) = (torn_decides group taken o).0 e in
      true≢false (sym (subst (λ x. has_operation taken x ≡ true) (one_partner o q p other pair) known) ∙ none)) ∙ sym none
]

-- one id has one id before it
one_before : (x y : Id) → later_id x 1 ≡ later_id y 1 → x ≡ y
one_before x y e = same_numbers x y (ap (λ (z : Id). z.client.0) e) (omega (arith, ap (λ (z : Id). z.clock) e))

-- a high half is torn where the next id was there
pub high_torn : (group taken : List Operation) (o : Operation) → HasPartners group → IsIn o group → IsHighUnit o.content →
    is_torn group taken o ≡ has_operation taken (later_id o.id 1)
high_torn group taken o partners i high =
    let (p, j, pair) = partners o i (inl high) in
    let behind : ArePartners o p = high_partner o p high pair in
    half_torn group taken o p j pair ∙ ap (λ x. has_operation taken x) behind.next_clock

-- a low half is torn where the id before it was there
pub low_torn : (group taken : List Operation) (o : Operation) (x : Id) → HasPartners group → IsIn o group → IsLowUnit o.content → o.id ≡ later_id x 1 →
    is_torn group taken o ≡ has_operation taken x
low_torn group taken o x partners i low next =
    let (p, j, pair) = partners o i (inr low) in
    let before : ArePartners p o = low_partner o p low pair in
    half_torn group taken o p j pair ∙ ap (λ y. has_operation taken y) (one_before p.id x (sym before.next_clock ∙ next))

-- ---- what is added

-- the operation is one of some of a group, whose id was not there, or its torn half
abbrev pub IsAddedOf : List Operation → List Operation → List Operation → Operation → Type 0
IsAddedOf group taken os q = (o : Operation) × IsIn o os × (has_operation taken o.id ≡ false) × (q ≡ as_torn (is_torn group taken o) o)

module _ (group taken : List Operation) (v : IsWritten group) (own : HasPartners group) (w : IsWritten taken) (partners : HasPartners taken) (none : LowersNone group taken) where
  -- only a new half is torn
  torn_is_new : (q : Operation) → IsTornWith group taken q → (has_operation taken q.id ≡ false) × IsIn q group × IsTornBeside group taken q
  torn_is_new q (inl (p, i, j, pair, (o, k, id, low))) =
      absurd (omega (arith, none o p k j (sym id), low, half_full p.content (pair_half q p (pair_is q p pair))))
  torn_is_new q (inr (p, i, new, j, pair, known)) = (new, i, (p, j, pair_is q p pair, known))

  torn_is : (o : Operation) → IsIn o group → has_operation taken o.id ≡ false → is_torn group taken o ≡ true → IsTornWith group taken o
  torn_is o i new e = let (p, j, pair, known) = (torn_decides group taken o).0 e in inr (p, i, new, j, is_pair o p pair, known)

  not_torn : (o : Operation) → (IsTornWith group taken o → ⊥) → IsIn o group → has_operation taken o.id ≡ false → is_torn group taken o ≡ false
  not_torn o whole i new = false_from_ne_true (is_torn group taken o) (λ e. whole (torn_is o i new e))

  -- what was there stays, and the rest is added
  pub with_group_adds : (q : Operation) → IsIn q (with_group group taken) ↔ (IsIn q taken ⊎ IsAddedOf group taken group q)
  with_group_adds q = (there, back)
    where
      kept : IsTakenWith group taken q → (IsTornWith group taken q → ⊥) → IsIn q taken ⊎ IsAddedOf group taken group q
      kept (inl (i, absent)) whole = inl i
      kept (inr (inl (i, new))) whole = inr (q, i, new, ap (λ t. as_torn t q) (sym (not_torn q whole i new)))
      kept (inr (inr (p, o, i, j, id, e))) whole = inl (subst (λ r. IsIn r taken) (sym (e ∙ lowered_not p o (none o p j i id))) i)

      torn : (o : Operation) → IsTornWith group taken o → q ≡ as_torn true o → IsAddedOf group taken group q
      torn o is e = let (new, i, beside) = torn_is_new o is in (o, i, new, e ∙ ap (λ t. as_torn t o) (sym ((torn_decides group taken o).1 beside)))

      there : IsIn q (with_group group taken) → IsIn q taken ⊎ IsAddedOf group taken group q
      there i = elim ((with_group_is group taken v own w partners q).0 i) [
        | inl (is, whole) ↦ kept is whole
        | inr (o, is, by, e) ↦ inr (torn o by e)
      ]

      old_whole : IsIn q taken → IsTornWith group taken q → ⊥
      old_whole i by = let (new, j, beside) = torn_is_new q by in id_not_there taken q.id new q i refl

      old : IsIn q taken → IsTakenWith group taken q
      old i = elim (cases_Bool (has_operation group q.id)) [
        | inl known ↦ let (o, j, id) = operation_with group q.id known in inr (inr (q, o, i, j, sym id, sym (lowered_not q o (none o q j i (sym id)))))
        | inr absent ↦ inl (i, absent)
      ]

      added : (o : Operation) → IsIn o group → has_operation taken o.id ≡ false → (t : Bool) → is_torn group taken o ≡ t → q ≡ as_torn t o →
          IsIn q (with_group group taken)
      added o i new true torn e = (with_group_is group taken v own w partners q).1 (inr (o, inr (inl (i, new)), torn_is o i new torn, e))
      added o i new false torn e = (with_group_is group taken v own w partners q).1 (inl (
        subst (λ r. IsTakenWith group taken r) (sym e) (inr (inl (i, new))),
        (λ by. let (absent, j, beside) = torn_is_new o (subst (λ r. IsTornWith group taken r) e by) in true≢false (sym ((torn_decides group taken o).1 beside) ∙ torn)),
      ))

      back : IsIn q taken ⊎ IsAddedOf group taken group q → IsIn q (with_group group taken)
      back (inl i) = (with_group_is group taken v own w partners q).1 (inl (old i, old_whole i))
      back (inr (o, i, new, e)) = added o i new (is_torn group taken o) refl e

  -- nothing else in the order of writing has these operations
  pub with_group_alone : (new : List Operation) → IsWritten new → ((q : Operation) → IsIn q new ↔ (IsIn q taken ⊎ IsAddedOf group taken group q)) →
      new ≡ with_group group taken
  with_group_alone new written same = written_alone new (with_group group taken) written (mended_written (all_taken group taken) (all_taken_written group taken w))
      (λ q i. (with_group_adds q).1 ((same q).0 i)) (λ q i. (same q).1 ((with_group_adds q).0 i))

-- ---- the ids that are there

-- after a struct there are the ids that were there, and those of its operations
pub with_group-ids : (group taken : List Operation) → IsWritten group → IsWritten taken → (x : Id) →
    has_operation (with_group group taken) x ≡ has_operation taken x || has_operation group x
with_group-ids group taken v w x = elim (cases_Bool (has_operation (with_group group taken) x)) [
  | inl known ↦ known ∙ sym (one_of known)
  | inr none ↦ none ∙ sym (or_from (has_operation taken x) (has_operation group x)
      (false_from_ne_true (has_operation taken x) (λ e. let (p, i, id) = operation_with taken x e in true≢false (sym (is_there p (of_old p i) id) ∙ none)))
      (false_from_ne_true (has_operation group x) (λ e. let (o, i, id) = operation_with group x e in true≢false (sym (is_there o (of_group o i) id) ∙ none))))
]
  where
    has_one : Operation → Type 0
    has_one p = (q : Operation) × IsIn q (all_taken group taken) × (q.id ≡ p.id)

    is_there : (p : Operation) → has_one p → p.id ≡ x → has_operation (with_group group taken) x ≡ true
    is_there p (q, i, id) e = let (r, j, same, level) = mended_keeps (all_taken group taken) q i in id_there (with_group group taken) r x j (same ∙ id ∙ e)

    of_old : (p : Operation) → IsIn p taken → has_one p
    of_old p i = elim (cases_Bool (has_operation group p.id)) [
      | inl known ↦ let (o, j, id) = operation_with group p.id known in
          (lowered p o, (all_taken_is group taken v w (lowered p o)).1 (inr (inr (p, o, i, j, sym id, refl))), lowered-id p o)
      | inr absent ↦ (p, (all_taken_is group taken v w p).1 (inl (i, absent)), refl)
    ]

    of_group : (o : Operation) → IsIn o group → has_one o
    of_group o i = elim (cases_Bool (has_operation taken o.id)) [
      | inl known ↦ let (p, j, id) = operation_with taken o.id known in
          (lowered p o, (all_taken_is group taken v w (lowered p o)).1 (inr (inr (p, o, j, i, id, refl))), lowered-id p o ∙ id)
      | inr new ↦ (o, (all_taken_is group taken v w o).1 (inr (inl (i, new))), refl)
    ]

    one_of : has_operation (with_group group taken) x ≡ true → (has_operation taken x || has_operation group x) ≡ true
    one_of known = let (q, i, id) = operation_with (with_group group taken) x known in elim (mended_is (all_taken group taken) q i) [
      | inl j ↦ from q id ((all_taken_is group taken v w q).0 j)
      | inr (o, j, half, alone, e) ↦ from o (sym (as_torn-id true o) ∙ sym (ap (λ (r : Operation). r.id) e) ∙ id) ((all_taken_is group taken v w o).0 j)
    ]
      where
        from : (q : Operation) → q.id ≡ x → IsTakenWith group taken q → (has_operation taken x || has_operation group x) ≡ true
        from q id (inl (i, absent)) = or_left (has_operation taken x) (has_operation group x) (id_there taken q x i id)
        from q id (inr (inl (i, new))) = or_right (has_operation taken x) (has_operation group x) (id_there group q x i id)
        from q id (inr (inr (p, o, i, j, same, e))) =
            or_left (has_operation taken x) (has_operation group x) (id_there taken p x i (sym (ap (λ (r : Operation). r.id) e ∙ lowered-id p o) ∙ id))
