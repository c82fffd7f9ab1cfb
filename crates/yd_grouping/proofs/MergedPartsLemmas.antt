-- Under agreement updates may be merged in parts: the merges agree, and say the same as the updates.
use Rattle.std.proofs.Common.{◌≡◌, ◌↔◌, ℕ, true, List, [], ◌∷◌, ◌++◌, ◌⊎◌, inl, inr, refl, sym, ◌∙◌, subst, arith}
use Rattle.yd_words.specs.Each.{Each}
use Rattle.yd_words.specs.Member.{IsIn}
use Rattle.yd_ids.specs.declared.id.Id.{Id}
use Rattle.yd_ops.specs.Operation.{ArePartners, Operation, operations_of}
use Rattle.yd_ops.specs.Valid.{IsValidUpdate}
use Rattle.yd_ops.specs.Value.{UpdateValue}
use Rattle.yd_ops.specs.Agreement.{Agree, AreAlike, DeleteId, SaysNoMore, ShareId, operations_of_all}
use Rattle.yd_ops.specs.Deletes.{SpellLess}
use Rattle.yd_ops.specs.ReceivedLaw.{IsCovered}
use Rattle.yd_ops.specs.Pairs.{are_partners}
use Rattle.yd_ops.specs.Received.{groups_of, nothing_received, received_set}
use Rattle.yd_ops.proofs.AgreementLemmas.{received_is, received_merged}
use Rattle.yd_ops.proofs.GroupLemmas.{all_partners, bare_append, update_bare, update_groups, update_partners}
use Rattle.yd_ops.proofs.LevelLemmas.{AreBare, down_to_level, half_full, say_as_much}
use Rattle.yd_ops.proofs.MendingLemmas.{HasPartners}
use Rattle.yd_ops.proofs.PartnerLemmas.{AreOnePair, high_partner, partners_decide}
use Rattle.yd_ops.proofs.ReceivedLemmas.{nothing_is_received}
use Rattle.yd_grouping.specs.Merged.{merge_of, merges_of, updates_of}
use Rattle.yd_grouping.proofs.AllLemmas.{front_valid, in_part, merge_part, of_all, part_all, part_merge, part_update, part_valid, update_valid, update_with}
use Rattle.yd_grouping.proofs.MergeLemmas.{merge-operations, merge_deletes, merge_valid}
use Rattle.yd_grouping.proofs.MergedIdsLemmas.{all_covered}

all_bare : (us : List UpdateValue) → AreBare (operations_of_all us)
all_bare [] o i none = absurd i
all_bare (u ∷ us) o i none = bare_append (operations_of u) (operations_of_all us) (update_bare u) (all_bare us) o i none

-- operations that are among alike ones are alike
still_share : (os ps : List Operation) → ((o : Operation) → IsIn o os → IsIn o ps) → (level : ℕ) (o p : Operation) → ShareId os level o p → ShareId ps level o p
still_share os ps among level o p s = record { one = among o s.one; other = among p s.other; id = s.id; says = s.says; other_says = s.other_says }

fewer_alike : (os ps : List Operation) → ((o : Operation) → IsIn o os → IsIn o ps) → AreAlike ps → AreAlike os
fewer_alike os ps among alike = record {
  lefts = λ o p s. alike.lefts o p (still_share os ps among 1 o p s);
  rights = λ o p s. alike.rights o p (still_share os ps among 1 o p s);
  lists = λ o p s. alike.lists o p (still_share os ps among 1 o p s);
  contents = λ o p s. alike.contents o p (still_share os ps among 2 o p s);
}

module _ (parts : List (List UpdateValue)) (valid : Each IsValidUpdate (updates_of parts)) (agree : Agree (updates_of parts)) where
  abbrev whole : List Operation
  whole = operations_of_all (updates_of parts)

  agree_part : (us : List UpdateValue) → IsIn us parts → Agree us
  agree_part us p = record {
    alike = fewer_alike (operations_of_all us) whole (part_all parts us p) agree.alike;
    collected = λ u v i j. agree.collected u v (part_update parts us p u i) (part_update parts us p v j);
  }

  -- what a merge has came with its updates
  came : (us : List UpdateValue) → IsIn us parts → (o : Operation) → IsIn o (operations_of (merge_of us)) → IsIn o (operations_of_all us)
  came us p o i = ((received_is us (part_valid parts valid us p) (agree_part us p) o).0 (subst (λ os. IsIn o os) (merge-operations us (part_valid parts valid us p)) i)).0

  -- and of what came the merge has what says no more
  kept : (us : List UpdateValue) → IsIn us parts → (o : Operation) → IsIn o (operations_of_all us) → IsCovered (operations_of (merge_of us)) o
  kept us p o i = subst (λ os. IsCovered os o) (sym (merge-operations us (part_valid parts valid us p)))
      (all_covered nothing_received us o nothing_is_received (part_valid parts valid us p) i)

  less_there : (us : List UpdateValue) → IsIn us parts → (x : Id) → SpellLess (operations_of (merge_of us)) x → SpellLess (operations_of_all us) x
  less_there us p x (o, i, e, low) = (o, came us p o i, e, low)

  less_back : (us : List UpdateValue) → IsIn us parts → (x : Id) → SpellLess (operations_of_all us) x → SpellLess (operations_of (merge_of us)) x
  less_back us p x (o, i, e, low) = let (q, j, f, le) = kept us p o i in (q, j, f ∙ e, omega (arith, low, le))

  less_update : (us : List UpdateValue) (x : Id) → SpellLess (operations_of_all us) x → (u : UpdateValue) × IsIn u us × SpellLess (operations_of u) x
  less_update us x (o, i, e, low) = let (u, j, k) = update_with us o i in (u, j, (o, k, e, low))

  less_all : (us : List UpdateValue) (u : UpdateValue) (x : Id) → IsIn u us → SpellLess (operations_of u) x → SpellLess (operations_of_all us) x
  less_all us u x i (o, j, e, low) = (o, of_all us u i o j, e, low)

  -- partners of a merge stand in one of its updates
  one_update : (us : List UpdateValue) → IsIn us parts → (high low : Operation) → IsIn high (operations_of (merge_of us)) → IsIn low (operations_of (merge_of us)) →
      are_partners high low ≡ true →
      (u : UpdateValue) × IsIn u us × IsIn high (operations_of u) × IsIn low (operations_of u)
  one_update us p high low i j e =
      let (u, k, l) = update_with us high (came us p high i) in
      (u, k, l, found u k l)
    where
      pair : ArePartners high low
      pair = (partners_decide high low).0 e

      found : (u : UpdateValue) → IsIn u us → IsIn high (operations_of u) → IsIn low (operations_of u)
      found u k l = go (partners_of u (update_valid us (part_valid parts valid us p) u k) high l (inl pair.high_half))
        where
          partners_of : (u : UpdateValue) → IsValidUpdate u → HasPartners (operations_of u)
          partners_of u is = subst (λ os. HasPartners os) (update_groups u) (all_partners (groups_of u) (update_partners u is))

          go : (q : Operation) × IsIn q (operations_of u) × AreOnePair high q → IsIn low (operations_of u)
          go (q, m, other) = let behind : ArePartners high q = high_partner high q pair.high_half other in
              subst (λ r. IsIn r (operations_of u)) (say_as_much whole agree.alike (all_bare (updates_of parts)) q low
              (part_all parts us p q (of_all us u k q m)) (part_all parts us p low (came us p low j)) (behind.next_clock ∙ sym pair.next_clock)
              (half_full q.content (inr behind.low_half) ∙ sym (half_full low.content (inr pair.low_half)))) m

  in_merges : (o : Operation) → IsIn o (operations_of_all (merges_of parts)) → IsIn o whole
  in_merges o i = let (u, j, k) = update_with (merges_of parts) o i in let (us, p, e) = part_merge parts u j in
      part_all parts us p o (came us p o (subst (λ v. IsIn o (operations_of v)) e k))

  -- what one merge spells less than full, one of its updates does
  less_part : (us : List UpdateValue) → IsIn us parts → (x : Id) → SpellLess (operations_of (merge_of us)) x → (u : UpdateValue) × IsIn u us × SpellLess (operations_of u) x
  less_part us p x less = less_update us x (less_there us p x less)

  part_less : (us : List UpdateValue) → IsIn us parts → (u : UpdateValue) → IsIn u us → (x : Id) → SpellLess (operations_of u) x → SpellLess (operations_of (merge_of us)) x
  part_less us p u i x less = less_back us p x (less_all us u x i less)

  merges_collect : (us : List UpdateValue) → IsIn us parts → (vs : List UpdateValue) → IsIn vs parts → (high low : Operation) → IsIn high (operations_of (merge_of us)) →
      IsIn low (operations_of (merge_of us)) →
      are_partners high low ≡ true → SpellLess (operations_of (merge_of vs)) high.id ↔ SpellLess (operations_of (merge_of vs)) low.id
  merges_collect us p vs q high low k l e = let (u, i, m, n) = one_update us p high low k l e in (
    (λ less. let (v, j, small) = less_part vs q high.id less in
        part_less vs q v j low.id ((agree.collected u v (part_update parts us p u i) (part_update parts vs q v j) high low m n e).0 small)),
    (λ less. let (v, j, small) = less_part vs q low.id less in
        part_less vs q v j high.id ((agree.collected u v (part_update parts us p u i) (part_update parts vs q v j) high low m n e).1 small)),
  )

  merges_agree : Agree (merges_of parts)
  merges_agree = record {
    alike = fewer_alike (operations_of_all (merges_of parts)) whole in_merges agree.alike;
    collected = λ u v i j high low k l e. let (us, p, f) = part_merge parts u i in let (vs, q, g) = part_merge parts v j in
        subst (λ w. SpellLess (operations_of w) high.id ↔ SpellLess (operations_of w) low.id) (sym g)
        (merges_collect us p vs q high low (subst (λ w. IsIn high (operations_of w)) f k) (subst (λ w. IsIn low (operations_of w)) f l) e);
  }

  merges_say : (o : Operation) → IsIn o (operations_of_all (merges_of parts)) → (q : Operation) × IsIn q whole × SaysNoMore q o
  merges_say o i = (
    o,
    in_merges o i,
    record {
      id = refl;
      level = omega arith;
      alike = down_to_level whole agree.alike (all_bare (updates_of parts)) o
          o (in_merges o i) (in_merges o i) refl (omega arith);
    },
  )

  updates_say : (o : Operation) → IsIn o whole → (q : Operation) × IsIn q (operations_of_all (merges_of parts)) × SaysNoMore q o
  updates_say o i = let (us, p, j) = in_part parts o i in let (q, k, e, le) = kept us p o j in (
    q,
    of_all (merges_of parts) (merge_of us) (merge_part parts us p) q k,
    record { id = e; level = le; alike = down_to_level whole agree.alike (all_bare (updates_of parts)) q o (part_all parts us p q (came us p q k)) i e le },
  )

delete_append : (one other : List UpdateValue) (x : Id) → DeleteId (one ++ other) x ↔ (DeleteId one x ⊎ DeleteId other x)
delete_append [] other x = ((λ h. inr h), (λ h. elim h [ inl k ↦ absurd k | inr k ↦ k ]))
delete_append (u ∷ one) other x = let both = delete_append one other x in (
  (λ h. elim h [ inl k ↦ inl (inl k) | inr k ↦ elim (both.0 k) [ inl l ↦ inl (inr l) | inr l ↦ inr l ] ]),
  (λ h. elim h [ inl k ↦ elim k [ inl l ↦ inl l | inr l ↦ inr (both.1 (inl l)) ] | inr k ↦ inr (both.1 (inr k)) ]),
)

merges_delete : (parts : List (List UpdateValue)) → Each IsValidUpdate (updates_of parts) → (x : Id) → DeleteId (merges_of parts) x ↔ DeleteId (updates_of parts) x
merges_delete [] valid x = ((λ h. absurd h), (λ h. absurd h))
merges_delete (part ∷ parts) valid x =
    let (front, back) = front_valid part (updates_of parts) valid in
    let one = merge_deletes part front x in
    let others = merges_delete parts back x in
    let both = delete_append part (updates_of parts) x in (
      (λ h. both.1 (elim h [ inl k ↦ inl (one.0 k) | inr k ↦ inr (others.0 k) ])),
      (λ h. elim (both.0 h) [ inl k ↦ inl (one.1 k) | inr k ↦ inr (others.1 k) ]),
    )

merges_valid : (parts : List (List UpdateValue)) → Each IsValidUpdate (updates_of parts) → Each IsValidUpdate (merges_of parts)
merges_valid [] valid = tt
merges_valid (part ∷ parts) valid = let (front, back) = front_valid part (updates_of parts) valid in (merge_valid part front, merges_valid parts back)

-- ---- lemmas for callers

-- under agreement merging may be done in parts
pub merges_received : (parts : List (List UpdateValue)) → Each IsValidUpdate (updates_of parts) → Agree (updates_of parts) →
    received_set (merges_of parts) ≡ received_set (updates_of parts)
merges_received parts valid agree = received_merged (merges_of parts) (updates_of parts) (merges_valid parts valid) valid (merges_agree parts valid agree) agree
    (record { there = merges_say parts valid agree; back = updates_say parts valid agree; deletes = merges_delete parts valid })
