-- What is left of an operation once more came: it is gone, or as it was but for what it holds; it needs no more; and a text unit was one.
use Rattle.std.proofs.Common.{◌≡◌, ℕ, zero, suc, ◌<◌, Bool, true, false, List, [], ◌∷◌, ◌⊎◌, inl, inr, refl, sym, ◌∙◌, subst, arith, tests}
use Rattle.std.proofs.lemmas.Bool.{cases_Bool}
use Rattle.std.specs.Prelude.{nat_eq}
use Rattle.yd_words.specs.Member.{IsIn}
use Rattle.yd_words.proofs.MemberLemmas.{in_left_part, in_parts}
use Rattle.yd_ids.specs.declared.id.Id.{Id}
use Rattle.yd_ids.proofs.IdLemmas.{same_says}
use Rattle.yd_ops.specs.Operation.{UnitContent, text_unit, any_unit, json_unit, bytes, embedded, mark, nested_type, deleted_unit, gone_unit, Operation, level_of, as_level}
use Rattle.yd_ops.specs.Pairs.{is_alone, as_torn}
use Rattle.yd_ops.specs.Received.{has_operation, IsWritten, lowered, taken_in, all_taken, mended, with_group, with_groups}
use Rattle.yd_ops.proofs.LevelLemmas.{lowered_either, half_full}
use Rattle.yd_ops.proofs.MendingLemmas.{alone_decides, map_has, mended_written}
use Rattle.yd_ops.proofs.OneOfLemmas.{operation_with, id_there}
use Rattle.yd_ops.proofs.PartnerLemmas.{IsHalf}
use Rattle.yd_ops.proofs.WritingLemmas.{taken_stays, taken_lowered, taken_written}
use Rattle.yd_meaning.specs.Held.{id_before, sources, needs, held_set, is_gone}
use Rattle.yd_meaning.specs.Staying.{AreSeenAlike}
use Rattle.yd_meaning.proofs.HeldLemmas.{held_least, needs_held}
use Rattle.yd_meaning.proofs.RowLemmas.{written_distinct, one_operation}
use Rattle.yd_held.specs.Turn.{IsToldAs}

-- the second is left of the first
pub record IsLeft (o q : Operation) : Type 0 where
  pub id : q.id ≡ o.id
  pub rest : (is_gone q ≡ true) ⊎ (AreSeenAlike o q × (is_gone q ≡ is_gone o))
  pub needs_no_more : (x : Id) → IsIn x (needs q) → IsIn x (needs o)
  pub text : (unit : ℕ) → q.content ≡ text_unit unit → (was : ℕ) × (o.content ≡ text_unit was)

seen_itself : (o : Operation) → AreSeenAlike o o
seen_itself o = record { id = refl; left = refl; right = refl; list = refl }

pub left_itself : (o : Operation) → IsLeft o o
left_itself o = record { id = refl; rest = inr (seen_itself o, refl); needs_no_more = λ x i. i; text = λ unit e. (unit, e) }

left_through : (o q r : Operation) → IsLeft o q → IsLeft q r → IsLeft o r
left_through o q r a b = record {
  id = b.id ∙ a.id;
  rest = go a.rest b.rest;
  needs_no_more = λ x i. a.needs_no_more x (b.needs_no_more x i);
  text = λ unit e. let (mid, f) = b.text unit e in a.text mid f;
}
  where
    go : (is_gone q ≡ true) ⊎ (AreSeenAlike o q × (is_gone q ≡ is_gone o)) → (is_gone r ≡ true) ⊎ (AreSeenAlike q r × (is_gone r ≡ is_gone q)) →
        (is_gone r ≡ true) ⊎ (AreSeenAlike o r × (is_gone r ≡ is_gone o))
    go x (inl gone) = inl gone
    go (inl gone) (inr y) = inl (y.1 ∙ gone)
    go (inr x) (inr y) = inr (
      record { id = y.0.id ∙ x.0.id; left = y.0.left ∙ x.0.left; right = y.0.right ∙ x.0.right; list = y.0.list ∙ x.0.list },
      y.1 ∙ x.1,
    )

-- ---- how less is left

not_zero : (n m : ℕ) → m < n → nat_eq n 0 ≡ false
not_zero n m lt = go (nat_eq n 0) refl
  where
    go : (t : Bool) → nat_eq n 0 ≡ t → nat_eq n 0 ≡ false
    go true e = (let zero_is : n ≡ 0 = grind (arith, tests) in absurd (omega (arith, lt, zero_is)))
    go false e = e

level_left : (level : ℕ) (o : Operation) → level < level_of o.content → IsLeft o (as_level level o)
level_left zero o lt = record {
  id = refl;
  rest = inl refl;
  needs_no_more = λ x i. elim (in_parts x (id_before o.id.client o.id.clock) [] i) [
    | inl j ↦ in_left_part x (id_before o.id.client o.id.clock) (sources o) j
    | inr j ↦ absurd j
  ];
  text = λ unit e. absurd cc;
}
level_left (suc zero) o lt = record {
  id = refl;
  rest = inr (record { id = refl; left = refl; right = refl; list = refl }, sym (not_zero (level_of o.content) 1 lt));
  needs_no_more = λ x i. i;
  text = λ unit e. absurd cc;
}
level_left (suc (suc level)) o lt = left_itself o

lowered_left : (o p : Operation) → IsLeft o (lowered o p)
lowered_left o p = elim (lowered_either o p) [
  | inl falls ↦ subst (IsLeft o) (sym falls.1) (level_left (level_of p.content) o falls.0)
  | inr stays ↦ subst (IsLeft o) (sym stays.1) (left_itself o)
]

-- a half is a text unit
half_text : (content : UnitContent) → IsHalf content → (was : ℕ) × (content ≡ text_unit was)
half_text (text_unit unit) half = (unit, refl)
half_text (any_unit value) half = absurd (elim half [ inl i ↦ i | inr i ↦ i ])
half_text (json_unit value) half = absurd (elim half [ inl i ↦ i | inr i ↦ i ])
half_text (bytes blob) half = absurd (elim half [ inl i ↦ i | inr i ↦ i ])
half_text (embedded value) half = absurd (elim half [ inl i ↦ i | inr i ↦ i ])
half_text (mark key value) half = absurd (elim half [ inl i ↦ i | inr i ↦ i ])
half_text (nested_type kind) half = absurd (elim half [ inl i ↦ i | inr i ↦ i ])
half_text deleted_unit half = absurd (elim half [ inl i ↦ i | inr i ↦ i ])
half_text gone_unit half = absurd (elim half [ inl i ↦ i | inr i ↦ i ])

torn_left : (os : List Operation) (o : Operation) → IsLeft o (as_torn (is_alone os o) o)
torn_left os o = go (is_alone os o) refl
  where
    go : (t : Bool) → is_alone os o ≡ t → IsLeft o (as_torn t o)
    go true e = let half = ((alone_decides os o).0 e).0 in record {
      id = refl;
      rest = inr (
        record { id = refl; left = refl; right = refl; list = refl },
        sym (not_zero (level_of o.content) 1 (let full : level_of o.content ≡ 2 = half_full o.content half in omega (arith, full))),
      );
      needs_no_more = λ x i. i;
      text = λ unit f. half_text o.content half;
    }
    go false e = left_itself o

-- ---- groups

-- one is there that is left of it
abbrev pub HasLeft : List Operation → Operation → Type 0
HasLeft taken o = (q : Operation) × IsIn q taken × IsLeft o q

left_taken : (p : Operation) (taken : List Operation) (o : Operation) → IsWritten taken → HasLeft taken o → HasLeft (taken_in p taken) o
left_taken p taken o w (q, i, left) = elim (same_says q.id p.id) [
  | inl same ↦ (lowered q p, taken_lowered p taken w q i same.1, left_through o q (lowered q p) left (lowered_left q p))
  | inr other ↦ (q, taken_stays p taken q i other.1, left)
]

left_all : (news taken : List Operation) (o : Operation) → IsWritten taken → HasLeft taken o → IsWritten (all_taken news taken) × HasLeft (all_taken news taken) o
left_all [] taken o w left = (w, left)
left_all (p ∷ news) taken o w left = left_all news (taken_in p taken) o (taken_written p taken w) (left_taken p taken o w left)

left_mended : (os : List Operation) (o : Operation) → HasLeft os o → HasLeft (mended os) o
left_mended os o (q, i, left) = (as_torn (is_alone os q) q, map_has (λ p. as_torn (is_alone os p) p) os q i, left_through o q (as_torn (is_alone os q) q) left (torn_left os q))

left_groups : (groups : List (List Operation)) (taken : List Operation) (o : Operation) → IsWritten taken → HasLeft taken o → HasLeft (with_groups groups taken) o
left_groups [] taken o w left = left
left_groups (group ∷ groups) taken o w left = let (v, more) = left_all group taken o w left in
    left_groups groups (with_group group taken) o (mended_written (all_taken group taken) v) (left_mended (all_taken group taken) o more)

-- ---- lemmas for callers

pub told_left : (o q : Operation) → IsLeft o q → IsToldAs o q
told_left o q left = record { id = left.id; alike = go left.rest; text = λ e. left.text 0xFFFD e }
  where
    go : (is_gone q ≡ true) ⊎ (AreSeenAlike o q × (is_gone q ≡ is_gone o)) → (is_gone q ≡ true) ⊎ ((is_gone o ≡ false) × (is_gone q ≡ false) × AreSeenAlike o q)
    go (inl gone) = inl gone
    go (inr alike) = elim (cases_Bool (is_gone o)) [ inl gone ↦ inl (alike.1 ∙ gone) | inr there ↦ inr (there, alike.1 ∙ there, alike.0) ]

-- what has the id of an operation that was there is left of it
pub left_of_it : (groups : List (List Operation)) (taken more : List Operation) → more ≡ with_groups groups taken → IsWritten taken → IsWritten more →
    (o q : Operation) → IsIn o taken → IsIn q more → q.id ≡ o.id → IsLeft o q
left_of_it groups taken more same w v o q i j e =
    let (p, k, left) = left_groups groups taken o w (o, i, left_itself o) in
    subst (IsLeft o) (one_operation more (written_distinct more v) p q (subst (λ ps. IsIn p ps) (sym same) k) j (left.id ∙ sym e)) left

pub has_left : (groups : List (List Operation)) (taken more : List Operation) → more ≡ with_groups groups taken → IsWritten taken → (o : Operation) → IsIn o taken → HasLeft more o
has_left groups taken more same w o i = subst (λ ps. HasLeft ps o) (sym same) (left_groups groups taken o w (o, i, left_itself o))

-- where of each operation one is left, the ids that are held of them are held of what is left
pub held_lesser : (os more : List Operation) → ((o : Operation) → IsIn o os → HasLeft more o) → (x : Id) →
    has_operation (held_set os) x ≡ true → has_operation (held_set more) x ≡ true
held_lesser os more lesser x e = let (p, i, g) = operation_with (held_set os) x e in subst (λ y. has_operation (held_set more) y ≡ true) g
    (held_least os (λ y. has_operation (held_set more) y ≡ true) (λ o j f.
    let (q, k, left) = lesser o j in id_there (held_set more) q o.id (needs_held more q k (λ y l. f y (left.needs_no_more y l))) left.id) p i)
