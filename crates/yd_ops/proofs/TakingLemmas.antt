-- Taking in the operations of a struct: which operations are there then, and which halves are torn.
use Rattle.std.proofs.Common.{◌≡◌, ◌≢◌, ◌↔◌, Bool, true, false, List, [], ◌∷◌, ◌⊎◌, inl, inr, refl, sym, ap, ◌∙◌, subst, arith, true≢false}
use Rattle.std.proofs.lemmas.Bool.{cases_Bool, false_from_ne_true}
use Rattle.yd_words.specs.Member.{IsIn}
use Rattle.yd_words.proofs.TestLemmas.{split}
use Rattle.yd_ids.specs.declared.id.Id.{Id}
use Rattle.yd_ids.proofs.IdLemmas.{written_differs}
use Rattle.yd_ops.specs.Operation.{Operation, level_of}
use Rattle.yd_ops.specs.Pairs.{is_alone, as_torn}
use Rattle.yd_ops.specs.Received.{has_operation, IsWritten, lowered, taken_in, all_taken, with_group}
use Rattle.yd_ops.specs.Deletes.{SpellLess}
use Rattle.yd_ops.specs.ReceivedLaw.{IsTakenWith, AreAPair, IsTornWith}
use Rattle.yd_ops.proofs.OneOfLemmas.{operation_with, id_not_there, none_has}
use Rattle.yd_ops.proofs.LevelLemmas.{level_at_most, half_full, as_level-level, lowered_either, lowered-id, lowered-level, lowered_not}
use Rattle.yd_ops.proofs.PartnerLemmas.{AreOnePair, IsHalf, partners_decide, pair_flip, pair_half, one_partner}
use Rattle.yd_ops.proofs.WritingLemmas.{written_agrees, taken_is, taken_new, taken_stays, taken_lowered, taken_keeps, taken_written}
use Rattle.yd_ops.proofs.MendingLemmas.{HasPartner, HasPartners, alone_decides, in_map, map_has}

-- ---- operations in turn

pub all_taken_written : (group taken : List Operation) → IsWritten taken → IsWritten (all_taken group taken)
all_taken_written [] taken w = w
all_taken_written (o ∷ os) taken w = all_taken_written os (taken_in o taken) (taken_written o taken w)

-- an id that a list does not have is not that of its first
not_first : (o : Operation) (os : List Operation) (x : Id) → has_operation (o ∷ os) x ≡ false → (x ≢ o.id) × (has_operation os x ≡ false)
not_first o os x none = ((λ e. id_not_there (o ∷ os) x none o (inl refl) (sym e)), none_has os x (λ p i e. id_not_there (o ∷ os) x none p (inr i) e))

pub all_taken_is : (group taken : List Operation) → IsWritten group → IsWritten taken → (q : Operation) → IsIn q (all_taken group taken) ↔ IsTakenWith group taken q
all_taken_is [] taken v w q = ((λ i. inl (i, refl)), (λ b. elim b [ inl there ↦ there.0 | inr c ↦ elim c [ inl i ↦ absurd i.0 | inr (p, o, i, j, id, e) ↦ absurd j ] ]))
all_taken_is (o ∷ os) taken v w q = step (all_taken_is os (taken_in o taken) v.1 (taken_written o taken w) q)
  where
    -- no later one has the id of the first
    other : (r : Operation) → IsIn r os → o.id ≢ r.id
    other r i = written_differs o.id r.id (v.0 r i)

    none_behind : (x : Id) → x ≡ o.id → has_operation os x ≡ false
    none_behind x e = none_has os x (λ r i f. other r i (sym e ∙ sym f))

    there : IsTakenWith os (taken_in o taken) q → IsTakenWith (o ∷ os) taken q
    there (inl (i, none)) = elim (taken_is o taken w q i) [
      | inl (e, absent) ↦ inr (inl (inl e, subst (λ (r : Operation). has_operation taken r.id ≡ false) (sym e) absent))
      | inr c ↦ elim c [
        | inl (j, differ) ↦ inl (j, none_has (o ∷ os) q.id (λ r k f. elim k [ inl e ↦ differ (sym f ∙ ap (λ (s : Operation). s.id) e) | inr l ↦ id_not_there os q.id none r l f ]))
        | inr (p, j, id, e) ↦ inr (inr (p, o, j, inl refl, id, e))
      ]
    ]
    there (inr (inl (i, none))) = inr (inl (
      inr i,
      false_from_ne_true (has_operation taken q.id) (λ e.
          let (p, j, f) = operation_with taken q.id e in let (r, k, id, le) = taken_keeps o taken w p j in
          id_not_there (taken_in o taken) q.id none r k (id ∙ f)),
    ))
    there (inr (inr (p, r, i, j, id, e))) = elim (taken_is o taken w p i) [
      | inl (f, absent) ↦ absurd (other r j (sym (ap (λ (s : Operation). s.id) f) ∙ id))
      | inr c ↦ elim c [
        | inl (k, differ) ↦ inr (inr (p, r, k, inr j, id, e))
        | inr (s, k, same, f) ↦ absurd (other r j (sym same ∙ sym (ap (λ (t : Operation). t.id) f ∙ lowered-id s o) ∙ id))
      ]
    ]

    back : IsTakenWith (o ∷ os) taken q → IsTakenWith os (taken_in o taken) q
    back (inl (i, none)) = let (differ, absent) = not_first o os q.id none in inl (taken_stays o taken q i differ, absent)
    back (inr (inl (inl e, none))) = inl (
      subst (λ r. IsIn r (taken_in o taken)) (sym e) (taken_new o taken (subst (λ (r : Operation). has_operation taken r.id ≡ false) e none)),
      none_behind q.id (ap (λ (r : Operation). r.id) e),
    )
    back (inr (inl (inr i, none))) = inr (inl (
      i,
      none_has (taken_in o taken) q.id (λ r j f. elim (taken_is o taken w r j) [
        | inl (e, absent) ↦ other q i (sym (ap (λ (s : Operation). s.id) e) ∙ f)
        | inr c ↦ elim c [
          | inl (k, differ) ↦ id_not_there taken q.id none r k f
          | inr (p, k, id, e) ↦ id_not_there taken q.id none p k (sym (ap (λ (s : Operation). s.id) e ∙ lowered-id p o) ∙ f)
        ]
      ]),
    ))
    back (inr (inr (p, r, i, inl f, id, e))) =
        let same : p.id ≡ o.id = id ∙ ap (λ (s : Operation). s.id) f in
        inl (
          subst (λ s. IsIn s (taken_in o taken)) (sym (e ∙ ap (λ s. lowered p s) f)) (taken_lowered o taken w p i same),
          none_behind q.id (ap (λ (s : Operation). s.id) e ∙ lowered-id p r ∙ same),
        )
    back (inr (inr (p, r, i, inr j, id, e))) = inr (inr (p, r, taken_stays o taken p i (λ f. other r j (sym f ∙ id)), j, id, e))

    step : IsIn q (all_taken os (taken_in o taken)) ↔ IsTakenWith os (taken_in o taken) q → IsIn q (all_taken os (taken_in o taken)) ↔ IsTakenWith (o ∷ os) taken q
    step later = ((λ i. there (later.0 i)), (λ b. later.1 (back b)))

-- ---- torn halves

pub pair_is : (o p : Operation) → AreAPair o p → AreOnePair o p
pair_is o p (inl e) = inl ((partners_decide o p).0 e)
pair_is o p (inr e) = inr ((partners_decide p o).0 e)

pub is_pair : (o p : Operation) → AreOnePair o p → AreAPair o p
is_pair o p (inl pair) = inl ((partners_decide o p).1 pair)
is_pair o p (inr pair) = inr ((partners_decide p o).1 pair)

module _ (group taken : List Operation) (v : IsWritten group) (own : HasPartners group) (w : IsWritten taken) (partners : HasPartners taken) where
  abbrev news : List Operation
  news = all_taken group taken

  news_is : (q : Operation) → IsIn q news ↔ IsTakenWith group taken q
  news_is q = all_taken_is group taken v w q

  -- a half that was there and is there still is torn where its partner is lowered
  torn_old : (q : Operation) → IsIn q taken → IsHalf q.content → (HasPartner news q → ⊥) → IsTornWith group taken q
  torn_old q i half none = let (p, j, pair) = partners q i half in inl (
    p,
    i,
    j,
    is_pair q p pair,
    elim (cases_Bool (has_operation group p.id)) [
      | inr absent ↦ absurd (none (p, (news_is p).1 (inl (j, absent)), pair))
      | inl there ↦ lowers p j pair (operation_with group p.id there)
    ],
  )
    where
      lowers : (p : Operation) → IsIn p taken → AreOnePair q p → (o : Operation) × IsIn o group × (o.id ≡ p.id) → SpellLess group p.id
      lowers p j pair (o, k, id) = elim (split 2 (level_of o.content)) [
        | inr lt ↦ (o, k, id, lt)
        | inl le ↦ absurd (none (p, (news_is p).1 (inr (inr (p, o, j, k, sym id, sym (lowered_not p o (omega (arith, le, half_full p.content (pair_half q p pair))))))), pair))
      ]

  alone_torn : (q : Operation) → IsTakenWith group taken q → IsHalf q.content → (HasPartner news q → ⊥) → IsTornWith group taken q
  alone_torn q (inl (i, none)) half alone = torn_old q i half alone
  alone_torn q (inr (inl (i, none))) half alone = let (p, j, pair) = own q i half in inr (
    p,
    i,
    none,
    j,
    is_pair q p pair,
    elim (cases_Bool (has_operation taken p.id)) [
      | inl there ↦ there
      | inr absent ↦ absurd (alone (p, (news_is p).1 (inr (inl (j, absent))), pair))
    ],
  )
  alone_torn q (inr (inr (p, o, i, j, id, e))) half alone = elim (lowered_either p o) [
    | inr stays ↦ torn_old q (subst (λ r. IsIn r taken) (sym (e ∙ stays.1)) i) half alone
    | inl falls ↦ absurd (omega (arith, half_full q.content half, ap (λ (r : Operation). level_of r.content) (e ∙ falls.1), as_level-level (level_of o.content) p falls.0, falls.0, level_at_most p.content))
  ]

  torn_alone : (q : Operation) → IsTornWith group taken q → HasPartner news q → ⊥
  torn_alone q (inl (p, i, j, pair, (o, k, id, low))) (s, l, other) =
      let same : s.id ≡ p.id = one_partner q s p other (pair_is q p pair) in
      elim ((news_is s).0 l) [
        | inl (m, none) ↦ id_not_there group s.id none o k (id ∙ sym same)
        | inr c ↦ elim c [
          | inl (m, none) ↦ id_not_there taken s.id none p j (sym same)
          | inr (r, t, m, n, f, e) ↦
              let one : t ≡ o = written_agrees group v t o n k (sym f ∙ sym (ap (λ (u : Operation). u.id) e ∙ lowered-id r t) ∙ same ∙ sym id) in
              absurd (omega (arith, half_full s.content (pair_half q s other), (lowered-level r t).0, ap (λ (u : Operation). level_of u.content) e, ap (λ (u : Operation). level_of u.content) one, low))
        ]
      ]
  torn_alone q (inr (p, i, none, j, pair, there)) (s, l, other) =
      let same : s.id ≡ p.id = one_partner q s p other (pair_is q p pair) in
      elim ((news_is s).0 l) [
        | inl (m, absent) ↦ id_not_there group s.id absent p j (sym same)
        | inr c ↦ elim c [
          | inl (m, absent) ↦ true≢false (sym (subst (λ x. has_operation taken x ≡ true) (sym same) there) ∙ absent)
          | inr (r, t, m, n, f, e) ↦ elim (lowered_either r t) [
            | inl falls ↦ absurd (omega (arith, half_full s.content (pair_half q s other), ap (λ (u : Operation). level_of u.content) (e ∙ falls.1), as_level-level (level_of t.content) r falls.0, falls.0, level_at_most r.content))
            | inr stays ↦
                let (x, k, also) = partners s (subst (λ u. IsIn u taken) (sym (e ∙ stays.1)) m) (pair_half q s other) in
                id_not_there taken q.id none x k (one_partner s x q also (pair_flip q s other))
          ]
        ]
      ]

  torn_half : (q : Operation) → IsTornWith group taken q → IsHalf q.content
  torn_half q (inl (p, i, j, pair, less)) = pair_half p q (pair_flip q p (pair_is q p pair))
  torn_half q (inr (p, i, none, j, pair, there)) = pair_half p q (pair_flip q p (pair_is q p pair))

  -- ---- lemmas for callers

  pub with_group_is : (q : Operation) → IsIn q (with_group group taken) ↔ ((IsTakenWith group taken q × (IsTornWith group taken q → ⊥))
      ⊎ ((o : Operation) × IsTakenWith group taken o × IsTornWith group taken o × (q ≡ as_torn true o)))
  with_group_is q = (there, back)
    where
      not_torn : (o : Operation) → IsIn o news → q ≡ as_torn (is_alone news o) o → (is_alone news o ≡ true) ⊎ (is_alone news o ≡ false) →
          (IsTakenWith group taken q × (IsTornWith group taken q → ⊥)) ⊎ ((o : Operation) × IsTakenWith group taken o × IsTornWith group taken o × (q ≡ as_torn true o))
      not_torn o i e (inl alone) = let facts = (alone_decides news o).0 alone in
          inr (o, (news_is o).0 i, alone_torn o ((news_is o).0 i) facts.0 facts.1, e ∙ ap (λ t. as_torn t o) alone)
      not_torn o i e (inr whole) =
          let same : q ≡ o = e ∙ ap (λ t. as_torn t o) whole in
          inl (
            subst (λ r. IsTakenWith group taken r) (sym same) ((news_is o).0 i),
            (λ torn.
                let own_torn : IsTornWith group taken o = subst (λ r. IsTornWith group taken r) same torn in
                true≢false (sym ((alone_decides news o).1 (torn_half o own_torn, torn_alone o own_torn)) ∙ whole)),
          )

      there : IsIn q (with_group group taken) → (IsTakenWith group taken q × (IsTornWith group taken q → ⊥))
          ⊎ ((o : Operation) × IsTakenWith group taken o × IsTornWith group taken o × (q ≡ as_torn true o))
      there i = let (o, j, e) = in_map (λ o. as_torn (is_alone news o) o) news q i in not_torn o j e (cases_Bool (is_alone news o))

      as_it_is : (o : Operation) → IsIn o news → (t : Bool) → is_alone news o ≡ t → IsIn (as_torn t o) (with_group group taken)
      as_it_is o i t e = subst (λ s. IsIn (as_torn s o) (with_group group taken)) e (map_has (λ o. as_torn (is_alone news o) o) news o i)

      back : (IsTakenWith group taken q × (IsTornWith group taken q → ⊥)) ⊎ ((o : Operation) × IsTakenWith group taken o × IsTornWith group taken o × (q ≡ as_torn true o)) →
          IsIn q (with_group group taken)
      back (inl (is, whole)) = as_it_is q ((news_is q).1 is) false (false_from_ne_true (is_alone news q) (λ e.
          let facts = (alone_decides news q).0 e in whole (alone_torn q is facts.0 facts.1)))
      back (inr (o, is, torn, e)) = subst (λ r. IsIn r (with_group group taken)) (sym e)
          (as_it_is o ((news_is o).1 is) true ((alone_decides news o).1 (torn_half o torn, torn_alone o torn)))
