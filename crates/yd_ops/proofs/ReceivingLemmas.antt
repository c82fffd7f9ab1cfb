-- Receiving operations that are alike: what is there of each id says least of what came, and a half is torn where its partner came spelled less.
use Rattle.std.proofs.Common.{◌≡◌, ◌<◌, ◌≤◌, true, List, [], ◌∷◌, ◌++◌, ◌⊎◌, inl, inr, refl, sym, ap, ◌∙◌, subst, arith, true≢false}
use Rattle.yd_words.specs.Each.{Each}
use Rattle.yd_words.specs.Member.{IsIn}
use Rattle.yd_words.proofs.TestLemmas.{split}
use Rattle.yd_words.proofs.MemberLemmas.{in_left_part, in_right_part, in_parts}
use Rattle.yd_ids.specs.declared.id.Id.{Id}
use Rattle.yd_ops.specs.Operation.{Operation, level_of, as_level}
use Rattle.yd_ops.specs.Pairs.{as_torn}
use Rattle.yd_ops.specs.Received.{has_operation, IsWritten, lowered, taken_in, all_taken, mended, with_group, with_groups}
use Rattle.yd_ops.specs.Deletes.{SpellLess}
use Rattle.yd_ops.specs.Agreement.{AreAlike, SaysLeast}
use Rattle.yd_ops.proofs.OneOfLemmas.{operation_with, id_there}
use Rattle.yd_ops.proofs.LevelLemmas.{half_full, as_level-torn, lowered_either, lowered-id, lowered-level, AreBare, down_to_level, say_as_much}
use Rattle.yd_ops.proofs.PartnerLemmas.{AreOnePair, IsHalf, pair_flip, pair_half, one_partner}
use Rattle.yd_ops.proofs.WritingLemmas.{IsTaken, taken_is, taken_id, taken_keeps, taken_written}
use Rattle.yd_ops.proofs.MendingLemmas.{HasPartner, HasPartners, torn_no_half, mended_is, mended_keeps, mended_written}
use Rattle.yd_ops.proofs.GroupLemmas.{all_of}

-- all operations of one list are in another
abbrev pub AreAmong : List Operation → List Operation → Type 0
AreAmong os ps = (o : Operation) → IsIn o os → IsIn o ps

-- a partner of the operation is spelled less than full
abbrev pub IsBereft : List Operation → Operation → Type 0
IsBereft os o = (p : Operation) × IsIn p os × AreOnePair o p × SpellLess os p.id

-- the operation is one of those, or one of those that is torn, and its partner is spelled less than full
abbrev pub IsFrom : List Operation → Operation → Type 0
IsFrom os q = IsIn q os ⊎ ((o : Operation) × IsIn o os × IsBereft os o × (q ≡ as_torn true o))

less_among : (os ps : List Operation) → AreAmong os ps → (x : Id) → SpellLess os x → SpellLess ps x
less_among os ps among x (o, i, e, low) = (o, among o i, e, low)

bereft_among : (os ps : List Operation) → AreAmong os ps → (o : Operation) → IsBereft os o → IsBereft ps o
bereft_among os ps among o (p, i, pair, less) = (p, among p i, pair, less_among os ps among p.id less)

from_among : (os ps : List Operation) → AreAmong os ps → (q : Operation) → IsFrom os q → IsFrom ps q
from_among os ps among q (inl i) = inl (among q i)
from_among os ps among q (inr (o, i, bereft, e)) = inr (o, among o i, bereft_among os ps among o bereft, e)

-- a bereft one is a half, so it is full
bereft_full : (os : List Operation) (o : Operation) → IsBereft os o → level_of o.content ≡ 2
bereft_full os o (p, i, pair, less) = half_full o.content (pair_half p o (pair_flip o p pair))

-- what is there, once some operations came
pub record IsSoFar (taken os : List Operation) : Type 0 where
  pub written : IsWritten taken
  pub ids : (o : Operation) → IsIn o os → has_operation taken o.id ≡ true
  pub from : (q : Operation) → IsIn q taken → IsFrom os q
  pub least : (q o : Operation) → IsIn q taken → IsIn o os → q.id ≡ o.id → level_of q.content ≤ level_of o.content

-- it is a matter of which came, not of their order
pub so_far_same : (taken os ps : List Operation) → AreAmong os ps → AreAmong ps os → IsSoFar taken os → IsSoFar taken ps
so_far_same taken os ps there back is = record {
  written = is.written;
  ids = λ o i. is.ids o (back o i);
  from = λ q i. from_among os ps there q (is.from q i);
  least = λ q o i j e. is.least q o i (back o j) e;
}

module _ (all : List Operation) (alike : AreAlike all) (bare : AreBare all) where
  -- ---- one operation more

  -- what is lowered by one that is alike is that one
  lowered_from : (os : List Operation) → AreAmong os all → (o : Operation) → IsIn o all → (p : Operation) → p.id ≡ o.id → IsFrom os p → IsFrom (o ∷ os) (lowered p o)
  lowered_from os among o i p id from = elim (lowered_either p o) [
    | inr stays ↦ subst (λ q. IsFrom (o ∷ os) q) (sym stays.1) (from_among os (o ∷ os) (λ q j. inr j) p from)
    | inl falls ↦ subst (λ q. IsFrom (o ∷ os) q) (sym falls.1) (inl (inl (sym (is_it falls.0 from))))
  ]
    where
      is_it : level_of o.content < level_of p.content → IsFrom os p → o ≡ as_level (level_of o.content) p
      is_it lt (inl j) = down_to_level all alike bare o p i (among p j) (sym id) (omega (arith, lt))
      is_it lt (inr (r, j, bereft, e)) =
          let full : level_of r.content ≡ 2 = bereft_full os r bereft in
          let small : level_of o.content < 2 = omega (arith, lt, ap (λ (s : Operation). level_of s.content) e) in
          down_to_level all alike bare o r i (among r j) (sym id ∙ ap (λ (s : Operation). s.id) e) (omega (arith, small, full))
          ∙ sym (as_level-torn (level_of o.content) r small) ∙ ap (as_level (level_of o.content)) (sym e)

  take_one : (taken os : List Operation) → AreAmong os all → (o : Operation) → IsIn o all → IsSoFar taken os → IsSoFar (taken_in o taken) (o ∷ os)
  take_one taken os among o i is = record {
    written = taken_written o taken is.written;
    ids = λ p j. elim j [
      | inl e ↦ let (q, k, id, le) = taken_id o taken is.written in id_there (taken_in o taken) q p.id k (id ∙ ap (λ (r : Operation). r.id) (sym e))
      | inr j ↦ let (r, l, e) = operation_with taken p.id (is.ids p j) in let (q, k, id, le) = taken_keeps o taken is.written r l in id_there (taken_in o taken) q p.id k (id ∙ e)
    ];
    from = λ q j. from q (taken_is o taken is.written q j);
    least = λ q p j k e. least q p (taken_is o taken is.written q j) k e;
  }
    where
      from : (q : Operation) → IsTaken o taken q → IsFrom (o ∷ os) q
      from q (inl (e, none)) = inl (inl e)
      from q (inr (inl (j, other))) = from_among os (o ∷ os) (λ p k. inr k) q (is.from q j)
      from q (inr (inr (p, j, id, e))) = subst (λ r. IsFrom (o ∷ os) r) (sym e) (lowered_from os among o i p id (is.from p j))

      least : (q p : Operation) → IsTaken o taken q → IsIn p (o ∷ os) → q.id ≡ p.id → level_of q.content ≤ level_of p.content
      least q p (inl (e, none)) (inl f) id = omega (arith, ap (λ (r : Operation). level_of r.content) e, ap (λ (r : Operation). level_of r.content) f)
      least q p (inl (e, none)) (inr k) id = absurd (true≢false (sym (subst (λ x. has_operation taken x ≡ true) (sym id ∙ ap (λ (r : Operation). r.id) e) (is.ids p k)) ∙ none))
      least q p (inr (inl (j, other))) (inl f) id = absurd (other (id ∙ ap (λ (r : Operation). r.id) f))
      least q p (inr (inl (j, other))) (inr k) id = is.least q p j k id
      least q p (inr (inr (r, j, same, e))) (inl f) id = let low = lowered-level r o in
          omega (arith, low.0, ap (λ (s : Operation). level_of s.content) e, ap (λ (s : Operation). level_of s.content) f)
      least q p (inr (inr (r, j, same, e))) (inr k) id = let low = lowered-level r o in
          omega (arith, low.1, ap (λ (s : Operation). level_of s.content) e, is.least r p j k (sym (ap (λ (s : Operation). s.id) e ∙ lowered-id r o) ∙ id))

  take_all : (taken os news : List Operation) → AreAmong os all → AreAmong news all → IsSoFar taken os → IsSoFar (all_taken news taken) (news ++ os)
  take_all taken os [] among new is = is
  take_all taken os (o ∷ news) among new is = so_far_same (all_taken news (taken_in o taken)) (news ++ o ∷ os) (o ∷ news ++ os) there back
      (take_all (taken_in o taken) (o ∷ os) news (λ p i. elim i [ inl e ↦ subst (λ q. IsIn q all) (sym e) (new o (inl refl)) | inr j ↦ among p j ])
      (λ p i. new p (inr i)) (take_one taken os among o (new o (inl refl)) is))
    where
      there : AreAmong (news ++ o ∷ os) (o ∷ news ++ os)
      there p i = elim (in_parts p news (o ∷ os) i) [
        | inl j ↦ inr (in_left_part p news os j)
        | inr j ↦ elim j [ inl e ↦ inl e | inr k ↦ inr (in_right_part p news os k) ]
      ]

      back : AreAmong (o ∷ news ++ os) (news ++ o ∷ os)
      back p (inl e) = in_right_part p news (o ∷ os) (inl e)
      back p (inr i) = elim (in_parts p news os i) [ inl j ↦ in_left_part p news (o ∷ os) j | inr j ↦ in_right_part p news (o ∷ os) (inr j) ]

  -- ---- mending

  mend : (taken os : List Operation) → AreAmong os all → HasPartners os → IsSoFar taken os → IsSoFar (mended taken) os
  mend taken os among partners is = record {
    written = mended_written taken is.written;
    ids = λ o i. let (r, k, e) = operation_with taken o.id (is.ids o i) in let (q, j, id, le) = mended_keeps taken r k in id_there (mended taken) q o.id j (id ∙ e);
    from = λ q i. from q (mended_is taken q i);
    least = λ q o i j e. least q o (mended_is taken q i) j e;
  }
    where
      Torn : Operation → Type 0
      Torn q = (o : Operation) × IsIn o taken × IsHalf o.content × (HasPartner taken o → ⊥) × (q ≡ as_torn true o)

      -- the partner of a half that is alone came spelled less
      bereft : (o : Operation) → IsIn o taken → IsHalf o.content → (HasPartner taken o → ⊥) → (p : Operation) → IsIn p os → AreOnePair o p →
          (r : Operation) → IsIn r taken → r.id ≡ p.id → IsFrom os r → SpellLess os p.id
      bereft o i half none p j pair r k id (inl l) = elim full_or_less [
        | inl full ↦ absurd (none (r, k, subst (λ s. AreOnePair o s) (sym (say_as_much all alike bare r p (among r l) (among p j) id (full ∙ sym (half_full p.content (pair_half o p pair))))) pair))
        | inr low ↦ (r, l, id, low)
      ]
        where
          full_or_less : (level_of r.content ≡ 2) ⊎ (level_of r.content < 2)
          full_or_less = elim (split 2 (level_of r.content)) [
            | inl le ↦ inl (omega (arith, le, is.least r p k j id, half_full p.content (pair_half o p pair)))
            | inr lt ↦ inr lt
          ]
      bereft o i half none p j pair r k id (inr (s, l, (t, m, other, less), e)) =
          let same : s ≡ p = say_as_much all alike bare s p (among s l) (among p j) (sym (ap (λ (v : Operation). v.id) e) ∙ id)
          (bereft_full os s (t, m, other, less) ∙ sym (half_full p.content (pair_half o p pair))) in
          let (u, n, f, low) = less in
          let own : o.id ≡ u.id = one_partner p o t (pair_flip o p pair) (subst (λ v. AreOnePair v t) same other) ∙ sym f in
          absurd (omega (arith, is.least o u i n own, low, half_full o.content half))

      from : (q : Operation) → IsIn q taken ⊎ Torn q → IsFrom os q
      from q (inl i) = is.from q i
      from q (inr (o, i, half, none, e)) = elim (is.from o i) [
        | inl j ↦ let (p, k, pair) = partners o j half in let (r, l, id) = operation_with taken p.id (is.ids p k) in
            inr (o, j, (p, k, pair, bereft o i half none p k pair r l id (is.from r l)), e)
        | inr (s, j, b, f) ↦ absurd (torn_no_half s (subst (λ (t : Operation). IsHalf t.content) f half))
      ]

      least : (q o : Operation) → IsIn q taken ⊎ Torn q → IsIn o os → q.id ≡ o.id → level_of q.content ≤ level_of o.content
      least q o (inl i) j id = is.least q o i j id
      least q o (inr (p, i, half, none, e)) j id =
          omega (arith, half_full p.content half, ap (λ (r : Operation). level_of r.content) e, is.least p o i j (sym (ap (λ (r : Operation). r.id) e) ∙ id))

  -- ---- groups

  pub take_groups : (groups : List (List Operation)) (taken os : List Operation) → AreAmong os all → AreAmong (all_of groups) all → HasPartners os → Each HasPartners groups →
      IsSoFar taken os → IsSoFar (with_groups groups taken) (all_of groups ++ os)
  take_groups [] taken os among new partners each is = is
  take_groups (group ∷ groups) taken os among new partners each is =
      so_far_same (with_groups groups (with_group group taken)) (all_of groups ++ (group ++ os)) (group ++ all_of groups ++ os) there back
      (take_groups groups (with_group group taken) (group ++ os) first_among (λ o i. new o (in_right_part o group (all_of groups) i)) first_partners each.1
      (mend (all_taken group taken) (group ++ os) first_among first_partners (take_all taken os group among (λ o i. new o (in_left_part o group (all_of groups) i)) is)))
    where
      first_among : AreAmong (group ++ os) all
      first_among o i = elim (in_parts o group os i) [ inl j ↦ new o (in_left_part o group (all_of groups) j) | inr j ↦ among o j ]

      first_partners : HasPartners (group ++ os)
      first_partners o i half = elim (in_parts o group os i) [
        | inl j ↦ let (p, k, pair) = each.0 o j half in (p, in_left_part p group os k, pair)
        | inr j ↦ let (p, k, pair) = partners o j half in (p, in_right_part p group os k, pair)
      ]

      there : AreAmong (all_of groups ++ (group ++ os)) (group ++ all_of groups ++ os)
      there o i = elim (in_parts o (all_of groups) (group ++ os) i) [
        | inl j ↦ in_left_part o (group ++ all_of groups) os (in_right_part o group (all_of groups) j)
        | inr j ↦ elim (in_parts o group os j) [
          | inl k ↦ in_left_part o (group ++ all_of groups) os (in_left_part o group (all_of groups) k)
          | inr k ↦ in_right_part o (group ++ all_of groups) os k
        ]
      ]

      back : AreAmong (group ++ all_of groups ++ os) (all_of groups ++ (group ++ os))
      back o i = elim (in_parts o (group ++ all_of groups) os i) [
        | inl j ↦ elim (in_parts o group (all_of groups) j) [
          | inl k ↦ in_right_part o (all_of groups) (group ++ os) (in_left_part o group os k)
          | inr k ↦ in_left_part o (all_of groups) (group ++ os) k
        ]
        | inr j ↦ in_right_part o (all_of groups) (group ++ os) (in_right_part o group os j)
      ]

-- ---- what is received in the end

-- the operation says least of its id and no partner of it is spelled less, or it is torn from such a one with such a partner
abbrev pub IsReceivedOf : List Operation → Operation → Type 0
IsReceivedOf os q = (IsIn q os × SaysLeast os q × (IsBereft os q → ⊥)) ⊎ ((o : Operation) × IsIn o os × SaysLeast os o × IsBereft os o × (q ≡ as_torn true o))

pub received_of_same : (os ps : List Operation) → AreAmong os ps → AreAmong ps os → (q : Operation) → IsReceivedOf os q → IsReceivedOf ps q
received_of_same os ps there back q (inl (i, least, none)) = inl (there q i, (λ p j e. least p (back p j) e), (λ b. none (bereft_among ps os back q b)))
received_of_same os ps there back q (inr (o, i, least, bereft, e)) = inr (o, there o i, (λ p j f. least p (back p j) f), bereft_among os ps there o bereft, e)

module _ (os : List Operation) (alike : AreAlike os) (bare : AreBare os) where
  least_one : (o p : Operation) → IsIn o os → IsIn p os → SaysLeast os o → SaysLeast os p → o.id ≡ p.id → o ≡ p
  least_one o p i j least other id = say_as_much os alike bare o p i j id (omega (arith, least p j id, other o i (sym id)))

  received_of_one : (q r : Operation) → IsReceivedOf os q → IsReceivedOf os r → q.id ≡ r.id → q ≡ r
  received_of_one q r (inl (i, least, none)) (inl (j, other, nor)) id = least_one q r i j least other id
  received_of_one q r (inl (i, least, none)) (inr (o, j, other, bereft, e)) id =
      absurd (none (subst (λ s. IsBereft os s) (sym (least_one q o i j least other (id ∙ ap (λ (s : Operation). s.id) e))) bereft))
  received_of_one q r (inr (o, i, least, bereft, e)) (inl (j, other, nor)) id =
      absurd (nor (subst (λ s. IsBereft os s) (least_one o r i j least other (sym (ap (λ (s : Operation). s.id) e) ∙ id)) bereft))
  received_of_one q r (inr (o, i, least, bereft, e)) (inr (p, j, other, also, f)) id =
      e ∙ ap (as_torn true) (least_one o p i j least other (sym (ap (λ (s : Operation). s.id) e) ∙ id ∙ ap (λ (s : Operation). s.id) f)) ∙ sym f

  module _ (taken : List Operation) (partners : HasPartners taken) (is : IsSoFar taken os) where
    pub received_from : (q : Operation) → IsIn q taken → IsReceivedOf os q
    received_from q i = elim (is.from q i) [
      | inl j ↦ inl (j, (λ p k e. is.least q p i k e), not_bereft)
      | inr (o, j, bereft, e) ↦ inr (o, j, (λ p k f. omega (arith, bereft_full os o bereft, ap (λ (r : Operation). level_of r.content) e, is.least q p i k (ap (λ (r : Operation). r.id) e ∙ f))), bereft, e)
    ]
      where
        not_bereft : IsBereft os q → ⊥
        not_bereft (p, j, pair, (s, k, e, low)) =
            let (r, l, other) = partners q i (pair_half p q (pair_flip q p pair)) in
            absurd (omega (arith, half_full r.content (pair_half q r other), low, is.least r s l k (one_partner q r p other pair ∙ sym e)))

    pub received_there : (q : Operation) → IsReceivedOf os q → IsIn q taken
    received_there q of = let (r, i, id) = operation_with taken q.id (id_in of) in
        subst (λ s. IsIn s taken) (received_of_one r q (received_from r i) of id) i
      where
        id_in : IsReceivedOf os q → has_operation taken q.id ≡ true
        id_in (inl (i, least, none)) = is.ids q i
        id_in (inr (o, i, least, bereft, e)) = subst (λ x. has_operation taken x ≡ true) (sym (ap (λ (s : Operation). s.id) e)) (is.ids o i)
