-- A struct that spells less than full: its new operations are added and those that were there lowered, which is what taking it gives.
use Rattle.std.proofs.Common.{◌≡◌, ◌↔◌, ℕ, ◌<◌, ◌≤◌, true, false, List, map, ◌⊎◌, inl, inr, sym, ap, ◌∙◌, subst, arith, true≢false}
use Rattle.std.proofs.lemmas.Bool.{cases_Bool}
use Rattle.yd_words.specs.Member.{IsIn}
use Rattle.yd_ids.specs.declared.id.Id.{Id}
use Rattle.yd_ops.specs.Operation.{Operation, level_of, as_level}
use Rattle.yd_ops.specs.Pairs.{is_half, as_torn}
use Rattle.yd_ops.specs.Received.{has_operation, IsWritten, lowered, all_taken, with_group}
use Rattle.yd_ops.specs.Deletes.{SpellLess}
use Rattle.yd_ops.specs.ReceivedLaw.{IsTakenWith, IsTornWith}
use Rattle.yd_ops.proofs.OneOfLemmas.{operation_with, id_is_there, id_there}
use Rattle.yd_ops.proofs.LevelLemmas.{half_full, lowered_either, lowered-level}
use Rattle.yd_ops.proofs.PartnerLemmas.{AreOnePair, IsHalf, half_decides, pair_flip, pair_half, one_partner}
use Rattle.yd_ops.proofs.WritingLemmas.{written_alone}
use Rattle.yd_ops.proofs.MendingLemmas.{HasPartners, in_map, map_has, mended_written}
use Rattle.yd_ops.proofs.TakingLemmas.{pair_is, is_pair, all_taken_written, with_group_is}
use Rattle.yd_entries.specs.Lowering.{is_among, lowered_with}
use Rattle.yd_entries.proofs.TornLemmas.{IsBordering, with_here, with_low, with_torn, with_other, partner_beside, partner_away}

-- the operations of a struct are those of so many ids from one on, and say as much as a level below full
pub record IsLess (group : List Operation) (id : Id) (count level : ℕ) : Type 0 where
  pub some : 0 < count
  pub low : level < 2
  pub written : IsWritten group
  pub levels : (o : Operation) → IsIn o group → level_of o.content ≡ level
  pub ids : (x : Id) → has_operation group x ≡ is_among id count x

-- what was there, with those that have new ids
abbrev pub AreWith : List Operation → List Operation → List Operation → Type 0
AreWith group old mid = (q : Operation) → IsIn q mid ↔ (IsIn q old ⊎ (IsIn q group × (has_operation old q.id ≡ false)))

module _ (group old mid : List Operation) (id : Id) (count level : ℕ) (is : IsLess group id count level) (w : IsWritten old) (partners : HasPartners old) (both : AreWith group old mid) where
  no_half : (o : Operation) → IsIn o group → IsHalf o.content → ⊥
  no_half o i half = absurd (omega (arith, half_full o.content half, is.levels o i, is.low))

  own : HasPartners group
  own o i half = absurd (no_half o i half)

  -- what a struct tears is a half
  torn_half : (q : Operation) → IsTornWith group old q → IsHalf q.content
  torn_half q (inl (p, i, j, pair, less)) = pair_half p q (pair_flip q p (pair_is q p pair))
  torn_half q (inr (p, i, none, j, pair, there)) = pair_half p q (pair_flip q p (pair_is q p pair))

  not_torn : (q : Operation) → level_of q.content ≤ level → IsTornWith group old q → ⊥
  not_torn q le torn = absurd (omega (arith, half_full q.content (torn_half q torn), le, is.low))

  of_group : (x : Id) → is_among id count x ≡ true → (o : Operation) × IsIn o group × (o.id ≡ x)
  of_group x among = operation_with group x (is.ids x ∙ among)

  among_group : (o : Operation) → IsIn o group → is_among id count o.id ≡ true
  among_group o i = sym (is.ids o.id) ∙ id_is_there group o i

  spells : (x : Id) → is_among id count x ≡ true → SpellLess group x
  spells x among = let (o, i, e) = of_group x among in (o, i, e, omega (arith, is.levels o i, is.low))

  spelled : (x : Id) → SpellLess group x → is_among id count x ≡ true
  spelled x (o, i, e, less) = sym (is.ids x) ∙ id_there group o x i e

  -- what is lowered is what its struct lowers it to
  lowered_is : (p o : Operation) → IsIn o group → p.id ≡ o.id → lowered_with id count level p ≡ lowered p o
  lowered_is p o k e =
      let among : is_among id count p.id ≡ true = ap (λ x. is_among id count x) e ∙ among_group o k in
      elim (lowered_either p o) [
        | inl falls ↦ with_here id count level is.some is.low p among (omega (arith, falls.0, is.levels o k)) ∙ ap (λ n. as_level n p) (sym (is.levels o k)) ∙ sym falls.1
        | inr stays ↦ with_low id count level is.some is.low p (omega (arith, stays.0, is.levels o k)) ∙ sym stays.1
      ]

  -- ---- from what is there then

  abbrev Result : Operation → Type 0
  Result q = (IsTakenWith group old q × (IsTornWith group old q → ⊥)) ⊎ ((o : Operation) × IsTakenWith group old o × IsTornWith group old o × (q ≡ as_torn true o))

  old_here : (p q : Operation) → IsIn p old → is_among id count p.id ≡ true → q ≡ lowered_with id count level p → Result q
  old_here p q j among e =
      let (o, k, id) = of_group p.id among in
      let same : q ≡ lowered p o = e ∙ lowered_is p o k (sym id) in
      inl (inr (inr (p, o, j, k, sym id, same)), not_torn q (omega (arith, ap (λ (r : Operation). level_of r.content) same, (lowered-level p o).0, is.levels o k)))

  whole_stays : (p q : Operation) → IsIn p old → is_among id count p.id ≡ false → (IsBordering id count level is.some is.low p → ⊥) → (IsTornWith group old p → ⊥) →
      q ≡ lowered_with id count level p → Result q
  whole_stays p q j away none whole e =
      let same : q ≡ p = e ∙ with_other id count level is.some is.low p away none in
      inl (
        subst (λ r. IsTakenWith group old r) (sym same) (inl (j, is.ids p.id ∙ away)),
        subst (λ r. IsTornWith group old r → ⊥) (sym same) whole,
      )

  old_away : (p q : Operation) → IsIn p old → is_among id count p.id ≡ false → q ≡ lowered_with id count level p → Result q
  old_away p q j away e = elim (cases_Bool (is_half p.content)) [
    | inr other ↦ whole_stays p q j away
        (λ beside. true≢false (sym ((half_decides p.content).1 (beside_half p beside)) ∙ other))
        (λ torn. true≢false (sym ((half_decides p.content).1 (torn_half p torn)) ∙ other)) e
    | inl half ↦ with_partner (partners p j ((half_decides p.content).0 half))
  ]
    where
      beside_half : (p : Operation) → IsBordering id count level is.some is.low p → IsHalf p.content
      beside_half p (inl h) = inl h.0
      beside_half p (inr l) = inr l.0

      with_partner : (r : Operation) × IsIn r old × AreOnePair p r → Result q
      with_partner (r, k, pair) = elim (cases_Bool (is_among id count r.id)) [
        | inl among ↦ inr (
          p,
          inl (j, is.ids p.id ∙ away),
          inl (r, j, k, is_pair p r pair, spells r.id among),
          e ∙ with_torn id count level is.some is.low p away (partner_beside id count level is.some is.low p r pair away among),
        )
        | inr apart ↦ whole_stays p q j away (partner_away id count level is.some is.low p r pair apart) (λ torn. whole r pair apart torn) e
      ]
        where
          whole : (r : Operation) → AreOnePair p r → is_among id count r.id ≡ false → IsTornWith group old p → ⊥
          whole r pair apart (inl (s, i, k, other, less)) =
              true≢false (sym (spelled s.id less) ∙ ap (λ x. is_among id count x) (one_partner p s r (pair_is p s other) pair) ∙ apart)
          whole r pair apart (inr (s, i, none, k, other, there)) = true≢false (sym (among_group p i) ∙ away)

  there : (q : Operation) → IsIn q (map (lowered_with id count level) mid) → Result q
  there q i = let (p, j, e) = in_map (lowered_with id count level) mid q i in elim ((both p).0 j) [
    | inl k ↦ elim (cases_Bool (is_among id count p.id)) [ inl among ↦ old_here p q k among e | inr away ↦ old_away p q k away e ]
    | inr (k, new) ↦
        let same : q ≡ p = e ∙ with_low id count level is.some is.low p (omega (arith, is.levels p k)) in
        inl (
          subst (λ r. IsTakenWith group old r) (sym same) (inr (inl (k, new))),
          subst (λ r. IsTornWith group old r → ⊥) (sym same) (not_torn p (omega (arith, is.levels p k))),
        )
  ]

  -- ---- and back

  as_lowered : (p q : Operation) → IsIn p mid → lowered_with id count level p ≡ q → IsIn q (map (lowered_with id count level) mid)
  as_lowered p q i e = subst (λ r. IsIn r (map (lowered_with id count level) mid)) e (map_has (lowered_with id count level) mid p i)

  whole_back : (q : Operation) → IsTakenWith group old q → (IsTornWith group old q → ⊥) → IsIn q (map (lowered_with id count level) mid)
  whole_back q (inl (i, none)) whole =
      let away : is_among id count q.id ≡ false = sym (is.ids q.id) ∙ none in
      as_lowered q q ((both q).1 (inl i)) (with_other id count level is.some is.low q away (λ beside.
      let (r, k, pair) = partners q i (elim beside [ inl h ↦ inl h.0 | inr l ↦ inr l.0 ]) in
      elim (cases_Bool (is_among id count r.id)) [
        | inl among ↦ whole (inl (r, i, k, is_pair q r pair, spells r.id among))
        | inr apart ↦ partner_away id count level is.some is.low q r pair apart beside
      ]))
  whole_back q (inr (inl (i, new))) whole = as_lowered q q ((both q).1 (inr (i, new))) (with_low id count level is.some is.low q (omega (arith, is.levels q i)))
  whole_back q (inr (inr (p, o, i, k, same, e))) whole = as_lowered p q ((both p).1 (inl i)) (lowered_is p o k same ∙ sym e)

  old_of : (o : Operation) → IsTakenWith group old o → IsHalf o.content → is_among id count o.id ≡ false
  old_of o (inl (i, none)) half = sym (is.ids o.id) ∙ none
  old_of o (inr (inl (i, new))) half = absurd (no_half o i half)
  old_of o (inr (inr (p, r, i, k, same, e))) half =
      absurd (omega (arith, half_full o.content half, ap (λ (s : Operation). level_of s.content) e, (lowered-level p r).0, is.levels r k, is.low))

  torn_back : (q o : Operation) → IsTakenWith group old o → IsTornWith group old o → q ≡ as_torn true o → IsIn q (map (lowered_with id count level) mid)
  torn_back q o taken (inl (r, i, k, pair, less)) e =
      let away : is_among id count o.id ≡ false = old_of o taken (torn_half o (inl (r, i, k, pair, less))) in
      as_lowered o q ((both o).1 (inl i)) (with_torn id count level is.some is.low o away
      (partner_beside id count level is.some is.low o r (pair_is o r pair) away (spelled r.id less)) ∙ sym e)
  torn_back q o taken (inr (r, i, none, k, pair, there)) e = absurd (no_half o i (torn_half o (inr (r, i, none, k, pair, there))))

  -- ---- lemmas for callers

  pub lowered_group : (new : List Operation) → IsWritten new → new ≡ map (lowered_with id count level) mid → new ≡ with_group group old
  lowered_group new written same = written_alone new (with_group group old) written (mended_written (all_taken group old) (all_taken_written group old w))
      (λ q i. (with_group_is group old is.written own w partners q).1 (there q (subst (IsIn q) same i)))
      (λ q i. subst (IsIn q) (sym same) (elim ((with_group_is group old is.written own w partners q).0 i) [
        | inl (taken, whole) ↦ whole_back q taken whole
        | inr (o, taken, torn, e) ↦ torn_back q o taken torn e
      ]))
