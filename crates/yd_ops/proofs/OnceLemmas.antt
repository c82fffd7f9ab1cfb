-- Mending once, at the end of an update, gives what mending after each struct gives.
use Rattle.std.proofs.Common.{◌≡◌, Bool, true, false, cond, List, [], ◌∷◌, ◌++◌, ◌⊎◌, inl, inr, map, refl, sym, ap, ap₂, ◌∙◌, subst, arith}
use Rattle.std.proofs.lemmas.Bool.{cases_Bool, false_from_ne_true}
use Rattle.yd_words.specs.Each.{Each}
use Rattle.yd_words.specs.Member.{IsIn}
use Rattle.yd_words.proofs.TestLemmas.{one_answer}
use Rattle.yd_ids.specs.declared.id.Id.{Id}
use Rattle.yd_ids.specs.Ids.{is_same, is_written_before}
use Rattle.yd_ids.proofs.IdLemmas.{same_says}
use Rattle.yd_ops.specs.Operation.{Operation, level_of, as_level, operations_of}
use Rattle.yd_ops.specs.Value.{UpdateValue}
use Rattle.yd_ops.specs.Valid.{IsValidUpdate}
use Rattle.yd_ops.specs.Pairs.{is_alone, as_torn}
use Rattle.yd_ops.specs.Received.{has_operation, IsWritten, lowered, taken_in, all_taken, mended, with_group, with_groups, groups_of}
use Rattle.yd_ops.specs.ReceivedLaw.{ArePaired, IsTakenWith}
use Rattle.yd_ops.proofs.OneOfLemmas.{operation_with, id_there}
use Rattle.yd_ops.proofs.LevelLemmas.{level_at_most, half_full, as_level-level, as_level-torn, lowered_either, lowered-id, lowered_not}
use Rattle.yd_ops.proofs.PartnerLemmas.{AreOnePair, IsHalf, pair_flip, pair_half, one_partner}
use Rattle.yd_ops.proofs.WritingLemmas.{written_agrees, taken_stays, taken_lowered, taken_written}
use Rattle.yd_ops.proofs.MendingLemmas.{HasPartner, HasPartners, alone_decides, torn_no_half, paired_has, mended_written, mended_partners, mended_whole}
use Rattle.yd_ops.proofs.TakingLemmas.{all_taken_written, all_taken_is}
use Rattle.yd_ops.proofs.GroupLemmas.{all_of, update_groups, update_written, update_partners}

-- ---- halves that stay alone

-- another operation has the id of the half's partner, so the half stays alone whatever comes
abbrev pub StaysAlone : List Operation → Operation → Type 0
StaysAlone os o = (p : Operation) × AreOnePair o p × (z : Operation) × IsIn z os × (z.id ≡ p.id) × (AreOnePair o z → ⊥)

-- a lowered operation is partner of none
lowered_not_partner : (o z s : Operation) → (AreOnePair o z → ⊥) → AreOnePair o (lowered z s) → ⊥
lowered_not_partner o z s none pair = elim (lowered_either z s) [
  | inr stays ↦ none (subst (λ r. AreOnePair o r) stays.1 pair)
  | inl falls ↦ absurd (omega (
    arith,
    half_full (lowered z s).content (pair_half o (lowered z s) pair),
    ap (λ (r : Operation). level_of r.content) falls.1,
    as_level-level (level_of s.content) z falls.0,
    falls.0,
    level_at_most z.content,
  ))
]

alone_taken : (s : Operation) (os : List Operation) → IsWritten os → (o : Operation) → StaysAlone os o → StaysAlone (taken_in s os) o
alone_taken s os w o (p, pair, z, i, id, none) = elim (same_says z.id s.id) [
  | inl same ↦ (p, pair, lowered z s, taken_lowered s os w z i same.1, lowered-id z s ∙ id, lowered_not_partner o z s none)
  | inr other ↦ (p, pair, z, taken_stays s os z i other.1, id, none)
]

alone_half : (os : List Operation) (o : Operation) → StaysAlone os o → IsHalf o.content
alone_half os o (p, pair, z, i, id, none) = pair_half p o (pair_flip o p pair)

-- it has no partner there
alone_none : (os : List Operation) → IsWritten os → (o : Operation) → StaysAlone os o → HasPartner os o → ⊥
alone_none os w o (p, pair, z, i, id, none) (q, j, other) =
    none (subst (λ r. AreOnePair o r) (written_agrees os w q z j i (one_partner o q p other pair ∙ sym id)) other)

-- ---- lists that differ in such halves

-- the first is the second, or the second is a half that stays alone, and the first is it, torn
abbrev pub IsTornOf : List Operation → Operation → Operation → Type 0
IsTornOf os x y = (x ≡ y) ⊎ (StaysAlone os y × (x ≡ as_torn true y))

-- so are the operations of two lists, one by one
abbrev pub AreTornOf : List Operation → List Operation → List Operation → Type 0
AreTornOf os [] [] = Unit {0}
AreTornOf os [] (y ∷ ys) = ⊥
AreTornOf os (x ∷ xs) [] = ⊥
AreTornOf os (x ∷ xs) (y ∷ ys) = IsTornOf os x y × AreTornOf os xs ys

torn_of_more : (os ps : List Operation) → ((o : Operation) → StaysAlone os o → StaysAlone ps o) → (xs ys : List Operation) → AreTornOf os xs ys → AreTornOf ps xs ys
torn_of_more os ps more [] [] r = tt
torn_of_more os ps more [] (y ∷ ys) r = r
torn_of_more os ps more (x ∷ xs) [] r = r
torn_of_more os ps more (x ∷ xs) (y ∷ ys) r = (elim r.0 [ inl e ↦ inl e | inr (alone, e) ↦ inr (more y alone, e) ], torn_of_more os ps more xs ys r.1)

torn_of_there : (os xs ys : List Operation) → AreTornOf os xs ys → (x : Operation) → IsIn x xs → (y : Operation) × IsIn y ys × IsTornOf os x y
torn_of_there os [] ys r x i = absurd i
torn_of_there os (p ∷ ps) [] r x i = absurd r
torn_of_there os (p ∷ ps) (q ∷ qs) r x (inl e) = (q, inl refl, subst (λ z. IsTornOf os z q) (sym e) r.0)
torn_of_there os (p ∷ ps) (q ∷ qs) r x (inr i) = let (y, j, d) = torn_of_there os ps qs r.1 x i in (y, inr j, d)

torn_of_back : (os xs ys : List Operation) → AreTornOf os xs ys → (y : Operation) → IsIn y ys → (x : Operation) × IsIn x xs × IsTornOf os x y
torn_of_back os xs [] r y i = absurd i
torn_of_back os [] (q ∷ qs) r y i = absurd r
torn_of_back os (p ∷ ps) (q ∷ qs) r y (inl e) = (p, inl refl, subst (λ z. IsTornOf os p z) (sym e) r.0)
torn_of_back os (p ∷ ps) (q ∷ qs) r y (inr i) = let (x, j, d) = torn_of_back os ps qs r.1 y i in (x, inr j, d)

torn_of-id : (os : List Operation) (x y : Operation) → IsTornOf os x y → x.id ≡ y.id
torn_of-id os x y (inl e) = ap (λ (r : Operation). r.id) e
torn_of-id os x y (inr (alone, e)) = ap (λ (r : Operation). r.id) e

-- ---- operations that come

lowered_torn : (os : List Operation) (x y s : Operation) → IsTornOf os x y → IsTornOf os (lowered x s) (lowered y s)
lowered_torn os x y s (inl e) = inl (ap (λ r. lowered r s) e)
lowered_torn os x y s (inr (alone, e)) = elim (lowered_either y s) [
  | inr stays ↦ inr (
    subst (StaysAlone os) (sym stays.1) alone,
    lowered_not x s (omega (arith, x_full, y_full, stays.0)) ∙ e ∙ ap (as_torn true) (sym stays.1),
  )
  | inl falls ↦ elim (lowered_either x s) [
    | inr stays ↦ absurd (omega (arith, x_full, y_full, falls.0, stays.0))
    | inl also ↦ inl (also.1 ∙ ap (as_level (level_of s.content)) e ∙ as_level-torn (level_of s.content) y (omega (arith, y_full, falls.0)) ∙ sym falls.1)
  ]
]
  where
    x_full : level_of x.content ≡ 2
    x_full = ap (λ (r : Operation). level_of r.content) e

    y_full : level_of y.content ≡ 2
    y_full = half_full y.content (alone_half os y alone)

taken_torn : (s : Operation) (os xs ys : List Operation) → AreTornOf os xs ys → AreTornOf os (taken_in s xs) (taken_in s ys)
taken_torn s os [] [] r = (inl refl, tt)
taken_torn s os [] (y ∷ ys) r = absurd r
taken_torn s os (x ∷ xs) [] r = absurd r
taken_torn s os (x ∷ xs) (y ∷ ys) r = subst (λ (i : Id). AreTornOf os (cond (is_same s.id i) (lowered x s ∷ xs) (cond (is_written_before s.id i) (s ∷ x ∷ xs) (x ∷ taken_in s xs)))
    (taken_in s (y ∷ ys))) (sym (torn_of-id os x y r.0)) (go (is_same s.id y.id) (is_written_before s.id y.id) (taken_torn s os xs ys r.1))
  where
    go : (t u : Bool) → AreTornOf os (taken_in s xs) (taken_in s ys) → AreTornOf os (cond t (lowered x s ∷ xs) (cond u (s ∷ x ∷ xs) (x ∷ taken_in s xs)))
        (cond t (lowered y s ∷ ys) (cond u (s ∷ y ∷ ys) (y ∷ taken_in s ys)))
    go true u f = (lowered_torn os x y s r.0, r.1)
    go false true f = (inl refl, r)
    go false false f = (r.0, f)

all_torn : (news os xs : List Operation) → IsWritten os → AreTornOf os xs os → AreTornOf (all_taken news os) (all_taken news xs) (all_taken news os)
all_torn [] os xs w r = r
all_torn (s ∷ news) os xs w r = all_torn news (taken_in s os) (taken_in s xs) (taken_written s os w)
    (torn_of_more os (taken_in s os) (alone_taken s os w) (taken_in s xs) (taken_in s os) (taken_torn s os xs os r))

-- ---- mending

-- lists that differ in such halves alone are mended alike
module _ (os xs : List Operation) (w : IsWritten os) (torn : AreTornOf os xs os) where
  same_partners : (o : Operation) → IsIn o os → (HasPartner xs o → HasPartner os o) × (HasPartner os o → HasPartner xs o)
  same_partners o i = (there, back)
    where
      there : HasPartner xs o → HasPartner os o
      there (p, j, pair) = let (q, k, d) = torn_of_there os xs os torn p j in elim d [
        | inl e ↦ (q, k, subst (λ r. AreOnePair o r) e pair)
        | inr (alone, e) ↦ absurd (torn_no_half q (subst (λ (r : Operation). IsHalf r.content) e (pair_half o p pair)))
      ]

      back : HasPartner os o → HasPartner xs o
      back (p, j, pair) = let (q, k, d) = torn_of_back os xs os torn p j in elim d [
        | inl e ↦ (q, k, subst (λ r. AreOnePair o r) (sym e) pair)
        | inr (alone, e) ↦ absurd (alone_none os w p alone (o, i, pair_flip o p pair))
      ]

  mended_one : (x y : Operation) → IsIn y os → IsTornOf os x y → as_torn (is_alone xs x) x ≡ as_torn (is_alone os y) y
  mended_one x y i (inl e) = ap (λ r. as_torn (is_alone xs r) r) e ∙ ap (λ t. as_torn t y)
      (one_answer (is_alone xs y) (is_alone os y) (alone_decides xs y) (
        (λ f. let facts = (alone_decides os y).0 f in (facts.0, (λ there. facts.1 ((same_partners y i).0 there)))),
        (λ facts. (alone_decides os y).1 (facts.0, (λ there. facts.1 ((same_partners y i).1 there)))),
      ))
  mended_one x y i (inr (alone, e)) =
      ap (λ t. as_torn t x) (false_from_ne_true (is_alone xs x) (λ f. torn_no_half y (subst (λ (r : Operation). IsHalf r.content) e ((alone_decides xs x).0 f).0)))
      ∙ e ∙ ap (λ t. as_torn t y) (sym ((alone_decides os y).1 (alone_half os y alone, alone_none os w y alone)))

  mended_alike : mended xs ≡ mended os
  mended_alike = go xs os (λ y i. i) torn
    where
      go : (ps qs : List Operation) → ((y : Operation) → IsIn y qs → IsIn y os) → AreTornOf os ps qs → map (λ o. as_torn (is_alone xs o) o) ps ≡ map (λ o. as_torn (is_alone os o) o) qs
      go [] [] among r = refl
      go [] (q ∷ qs) among r = absurd r
      go (p ∷ ps) [] among r = absurd r
      go (p ∷ ps) (q ∷ qs) among r = ap₂ (λ a b. a ∷ b) (mended_one p q (among q (inl refl)) r.0) (go ps qs (λ y i. among y (inr i)) r.1)

-- the id of each half's partner is there
abbrev pub KnowPartners : List Operation → Type 0
KnowPartners os = (o : Operation) → IsIn o os → IsHalf o.content → (p : Operation) × AreOnePair o p × (has_operation os p.id ≡ true)

-- then what mending tears stays alone
mended_torn : (os : List Operation) → KnowPartners os → AreTornOf os (mended os) os
mended_torn os know = go os (λ o i. i)
  where
    one : (o : Operation) → IsIn o os → (t : Bool) → is_alone os o ≡ t → IsTornOf os (as_torn t o) o
    one o i false e = inl refl
    one o i true e = let facts = (alone_decides os o).0 e in let (p, pair, known) = know o i facts.0 in let (z, j, id) = operation_with os p.id known in
        inr ((p, pair, z, j, id, (λ also. facts.1 (z, j, also))), refl)

    go : (qs : List Operation) → ((o : Operation) → IsIn o qs → IsIn o os) → AreTornOf os (map (λ o. as_torn (is_alone os o) o) qs) qs
    go [] among = tt
    go (q ∷ qs) among = (one q (among q (inl refl)) (is_alone os q) refl, go qs (λ o i. among o (inr i)))

-- the ids of partners are there, once the operations of a struct are taken beside whole pairs
know_taken : (group taken : List Operation) → IsWritten group → HasPartners group → IsWritten taken → HasPartners taken → KnowPartners (all_taken group taken)
know_taken group taken v own w partners o i half = from ((all_taken_is group taken v w o).0 i)
  where
    is_there : (p : Operation) → IsTakenWith group taken p → has_operation (all_taken group taken) p.id ≡ true
    is_there p is = id_there (all_taken group taken) p p.id ((all_taken_is group taken v w p).1 is) refl

    of_old : (p : Operation) → IsIn p taken → has_operation (all_taken group taken) p.id ≡ true
    of_old p j = elim (cases_Bool (has_operation group p.id)) [
      | inl known ↦ let (s, k, id) = operation_with group p.id known in
          subst (λ x. has_operation (all_taken group taken) x ≡ true) (lowered-id p s) (is_there (lowered p s) (inr (inr (p, s, j, k, sym id, refl))))
      | inr absent ↦ is_there p (inl (j, absent))
    ]

    of_group : (p : Operation) → IsIn p group → has_operation (all_taken group taken) p.id ≡ true
    of_group p j = elim (cases_Bool (has_operation taken p.id)) [
      | inl known ↦ let (s, k, id) = operation_with taken p.id known in subst (λ x. has_operation (all_taken group taken) x ≡ true) id (of_old s k)
      | inr new ↦ is_there p (inr (inl (j, new)))
    ]

    from : IsTakenWith group taken o → (p : Operation) × AreOnePair o p × (has_operation (all_taken group taken) p.id ≡ true)
    from (inl (j, absent)) = let (p, k, pair) = partners o j half in (p, pair, of_old p k)
    from (inr (inl (j, new))) = let (p, k, pair) = own o j half in (p, pair, of_group p k)
    from (inr (inr (q, s, j, k, id, e))) = elim (lowered_either q s) [
      | inr stays ↦ let (p, l, pair) = partners o (subst (λ r. IsIn r taken) (sym (e ∙ stays.1)) j) half in (p, pair, of_old p l)
      | inl falls ↦ absurd (omega (
        arith,
        half_full o.content half,
        ap (λ (r : Operation). level_of r.content) (e ∙ falls.1),
        as_level-level (level_of s.content) q falls.0,
        falls.0,
        level_at_most q.content,
      ))
    ]

all_taken-append : (news more taken : List Operation) → all_taken (news ++ more) taken ≡ all_taken more (all_taken news taken)
all_taken-append [] more taken = refl
all_taken-append (o ∷ news) more taken = all_taken-append news more (taken_in o taken)

-- ---- lemmas for callers

pub groups_once : (groups : List (List Operation)) (taken : List Operation) → Each IsWritten groups → Each HasPartners groups → IsWritten taken → HasPartners taken →
    with_groups groups taken ≡ mended (all_taken (all_of groups) taken)
groups_once [] taken v own w partners = sym (mended_whole taken partners)
groups_once (group ∷ groups) taken v own w partners =
    groups_once groups (with_group group taken) v.1 own.1 (mended_written news (all_taken_written group taken w)) (mended_partners news)
    ∙ mended_alike (all_taken (all_of groups) news) (all_taken (all_of groups) (mended news)) (all_taken_written (all_of groups) news (all_taken_written group taken w))
    (all_torn (all_of groups) news (mended news) (all_taken_written group taken w) (mended_torn news (know_taken group taken v.0 own.0 w partners)))
    ∙ ap mended (sym (all_taken-append group (all_of groups) taken))
  where
    news : List Operation
    news = all_taken group taken

-- what is received after a valid update is what was there with all its operations, mended once
pub update_once : (update : UpdateValue) (taken : List Operation) → IsValidUpdate update → IsWritten taken → ArePaired taken →
    with_groups (groups_of update) taken ≡ mended (all_taken (operations_of update) taken)
update_once update taken valid w paired = groups_once (groups_of update) taken (update_written update) (update_partners update valid) w (paired_has taken paired)
    ∙ ap (λ os. mended (all_taken os taken)) (update_groups update)
