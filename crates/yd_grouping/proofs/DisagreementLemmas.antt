-- The smallest id that breaks agreement; there is none exactly under agreement.
use Rattle.std.specs.Bool.{beq}
use Rattle.std.specs.Prelude.{filter}
use Rattle.std.proofs.Common.{◌≡◌, ◌↔◌, ◌<◌, true, false, ◌&&◌, List, [], ◌∷◌, map, Some, None, inl, inr, refl, sym, ap, subst, arith}
use Rattle.yd_words.specs.Member.{IsIn}
use Rattle.yd_words.proofs.FilterLemmas.{kept_one, one_kept}
use Rattle.yd_ids.specs.Ids.{is_same_neighbour, is_smaller}
use Rattle.yd_ids.specs.declared.id.Id.{Id}
use Rattle.yd_ops.specs.Operation.{Operation, level_of, operations_of}
use Rattle.yd_ops.specs.Value.{UpdateValue}
use Rattle.yd_ops.specs.Agreement.{Agree, ShareId, operations_of_all}
use Rattle.yd_ops.specs.Deletes.{SpellLess}
use Rattle.yd_ops.specs.Pairs.{are_partners}
use Rattle.yd_ops.proofs.LevelLemmas.{level_at_most}
use Rattle.yd_meaning.specs.Names.{same_carried}
use Rattle.yd_grouping.specs.Disagreement.{BreaksAgreement, breaks_agreement, disagreement_of, spells_less}
use Rattle.yd_grouping.specs.Sameness.{same_content}
use Rattle.yd_grouping.proofs.AllLemmas.{of_all}
use Rattle.yd_grouping.proofs.BreakingLemmas.{both_ways, breaks_decides, less_spelled_decides, not_refuted, same_all}
use Rattle.yd_grouping.proofs.SamenessLemmas.{content_decides}
use Rattle.yd_grouping.proofs.SmallestLemmas.{is_smallest, no_smallest, none_smallest, smallest_is}

module _ (updates : List UpdateValue) where
  abbrev all : List Operation
  all = operations_of_all updates

  -- ---- agreement

  pub agree_breaks_none : Agree updates → (x : Id) → BreaksAgreement updates x → ⊥
  agree_breaks_none agree x (inl u) = elim u.unlike [
    | inl elsewhere ↦ elsewhere.2 (
      agree.alike.lefts u.one u.other (shared elsewhere.0 elsewhere.1),
      agree.alike.rights u.one u.other (shared elsewhere.0 elsewhere.1),
      agree.alike.lists u.one u.other (shared elsewhere.0 elsewhere.1),
    )
    | inr holds ↦ holds.2 (agree.alike.contents u.one u.other (record {
      one = u.one_there;
      other = u.other_there;
      id = u.same_id;
      says = omega (arith, holds.0);
      other_says = omega (arith, holds.1);
    }))
  ]
    where
      shared : 0 < level_of u.one.content → 0 < level_of u.other.content → ShareId all 1 u.one u.other
      shared some more = record { one = u.one_there; other = u.other_there; id = u.same_id; says = omega (arith, some); other_says = omega (arith, more) }
  agree_breaks_none agree x (inr h) = h.one_less (agree.collected h.update h.other h.update_there h.other_there h.high h.low h.high_there h.low_there h.partners)

  same_of : ((x : Id) → BreaksAgreement updates x → ⊥) → (o p : Operation) → IsIn o all → IsIn p all → o.id ≡ p.id → 0 < level_of o.content → 0 < level_of p.content →
      (o.left_origin ≡ p.left_origin) × (o.right_origin ≡ p.right_origin) × (o.list ≡ p.list)
  same_of none o p i j id some more = not_refuted (is_same_neighbour o.left_origin p.left_origin && is_same_neighbour o.right_origin p.right_origin && same_carried o.list p.list)
      (same_all o p)
      (λ differ. none o.id (inl (record { one = o; other = p; one_there = i; other_there = j; id = refl; same_id = id; unlike = inl (some, more, differ) })))

  collected_of : ((x : Id) → BreaksAgreement updates x → ⊥) → (update other : UpdateValue) → IsIn update updates → IsIn other updates → (high low : Operation) →
      IsIn high (operations_of update) → IsIn low (operations_of update) → are_partners high low ≡ true →
      SpellLess (operations_of other) high.id ↔ SpellLess (operations_of other) low.id
  collected_of none update other i l high low j k pair = not_refuted (beq (spells_less (operations_of other) high.id) (spells_less (operations_of other) low.id))
      (both_ways (spells_less (operations_of other) high.id) (spells_less (operations_of other) low.id) (less_spelled_decides (operations_of other) high.id)
      (less_spelled_decides (operations_of other) low.id))
      (λ differ. none high.id (inr (record {
        update = update;
        high = high;
        low = low;
        other = other;
        update_there = i;
        high_there = j;
        low_there = k;
        other_there = l;
        id = refl;
        partners = pair;
        one_less = differ;
      })))

  same_shared : ((x : Id) → BreaksAgreement updates x → ⊥) → (o p : Operation) → ShareId all 1 o p →
      (o.left_origin ≡ p.left_origin) × (o.right_origin ≡ p.right_origin) × (o.list ≡ p.list)
  same_shared none o p s = same_of none o p s.one s.other s.id (omega (arith, s.says)) (omega (arith, s.other_says))

  same_contents : ((x : Id) → BreaksAgreement updates x → ⊥) → (o p : Operation) → ShareId all 2 o p → o.content ≡ p.content
  same_contents none o p s = not_refuted (same_content o.content p.content) (content_decides o.content p.content) (λ differ. none o.id (inl (record {
    one = o;
    other = p;
    one_there = s.one;
    other_there = s.other;
    id = refl;
    same_id = s.id;
    unlike = inr (omega (arith, s.says, level_at_most o.content), omega (arith, s.other_says, level_at_most p.content), differ);
  })))

  pub none_breaks_agree : ((x : Id) → BreaksAgreement updates x → ⊥) → Agree updates
  none_breaks_agree none = record {
    alike = record {
      lefts = λ o p s. (same_shared none o p s).0;
      rights = λ o p s. (same_shared none o p s).1;
      lists = λ o p s. (same_shared none o p s).2;
      contents = same_contents none;
    };
    collected = collected_of none;
  }

  -- ---- the smallest

  -- an id that breaks agreement is an operation's
  breaks_there : (x : Id) → BreaksAgreement updates x → (o : Operation) × IsIn o all × (o.id ≡ x)
  breaks_there x (inl u) = (u.one, u.one_there, u.id)
  breaks_there x (inr h) = (h.high, of_all updates h.update h.update_there h.high h.high_there, h.id)

  abbrev breaking : List Id
  breaking = map (λ (o : Operation). o.id) (filter (λ (o : Operation). breaks_agreement updates o.id) all)

  in_ids : (os : List Operation) (o : Operation) → IsIn o os → IsIn o.id (map (λ (p : Operation). p.id) os)
  in_ids [] o i = absurd i
  in_ids (p ∷ ps) o (inl e) = inl (ap (λ (q : Operation). q.id) e)
  in_ids (p ∷ ps) o (inr i) = inr (in_ids ps o i)

  ids_in : (os : List Operation) (x : Id) → IsIn x (map (λ (p : Operation). p.id) os) → (o : Operation) × IsIn o os × (x ≡ o.id)
  ids_in [] x i = absurd i
  ids_in (p ∷ ps) x (inl e) = (p, inl refl, e)
  ids_in (p ∷ ps) x (inr i) = let (o, j, e) = ids_in ps x i in (o, inr j, e)

  breaking_there : (x : Id) → BreaksAgreement updates x → IsIn x breaking
  breaking_there x breaks = let (o, i, e) = breaks_there x breaks in
      subst (λ y. IsIn y breaking) e (in_ids (filter (λ (p : Operation). breaks_agreement updates p.id) all) o
      (one_kept (λ (p : Operation). breaks_agreement updates p.id) all o (subst (λ y. breaks_agreement updates y ≡ true) (sym e) ((breaks_decides updates x).1 breaks)) i))

  breaking_back : (x : Id) → IsIn x breaking → BreaksAgreement updates x
  breaking_back x i = let (o, j, e) = ids_in (filter (λ (p : Operation). breaks_agreement updates p.id) all) x i in
      (breaks_decides updates x).0 (subst (λ y. breaks_agreement updates y ≡ true) (sym e) (kept_one (λ (p : Operation). breaks_agreement updates p.id) all o j).0)

-- ---- lemmas for callers

pub disagreement_none : (updates : List UpdateValue) → disagreement_of updates ≡ None ↔ Agree updates
disagreement_none updates = (
  (λ e. none_breaks_agree updates (λ x breaks. no_smallest (breaking updates) e x (breaking_there updates x breaks))),
  (λ agree. none_smallest (breaking updates) (λ x i. agree_breaks_none updates agree x (breaking_back updates x i))),
)

pub disagreement_some : (updates : List UpdateValue) (x : Id) → disagreement_of updates ≡ Some x ↔ (BreaksAgreement updates x ×
    ((y : Id) → BreaksAgreement updates y → is_smaller y x ≡ false))
disagreement_some updates x = (
  (λ e. let least = smallest_is (breaking updates) x e in (breaking_back updates x least.0, λ y breaks. least.1 y (breaking_there updates y breaks))),
  (λ is. is_smallest (breaking updates) x (breaking_there updates x is.0, λ y i. is.1 y (breaking_back updates y i))),
)
