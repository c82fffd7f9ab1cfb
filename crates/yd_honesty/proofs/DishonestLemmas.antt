-- The smallest id that breaks the edit rules is what its function says.
use Rattle.std.proofs.Common.{◌≡◌, ◌↔◌, Bool, false, not, List, [], ◌∷◌, Some, None, inl, inr, refl, sym, ap, ◌∙◌, subst, true≢false}
use Rattle.std.specs.Prelude.{map, filter}
use Rattle.std.proofs.lemmas.Bool.{cases_Bool}
use Rattle.yd_words.specs.Member.{IsIn}
use Rattle.yd_words.proofs.FilterLemmas.{kept_one, one_kept}
use Rattle.yd_words.proofs.TestLemmas.{test_fails}
use Rattle.yd_ids.specs.declared.id.Id.{Id}
use Rattle.yd_ids.specs.Ids.{is_smaller}
use Rattle.yd_ops.specs.Operation.{Operation}
use Rattle.yd_ops.specs.Received.{IsWritten}
use Rattle.yd_meaning.specs.Held.{held_set, standing}
use Rattle.yd_meaning.specs.Order.{AreHonest}
use Rattle.yd_grouping.proofs.SmallestLemmas.{is_smallest, no_smallest, none_smallest, smallest_is}
use Rattle.yd_honesty.specs.Dishonest.{BreaksRules, meets_rules, dishonest_of}
use Rattle.yd_honesty.proofs.RuleLemmas.{rules_decide}

in_mapped : (os : List Operation) (o : Operation) → IsIn o os → IsIn o.id (map (λ (p : Operation). p.id) os)
in_mapped [] o i = absurd i
in_mapped (p ∷ ps) o (inl e) = inl (ap (λ q. q.id) e)
in_mapped (p ∷ ps) o (inr i) = inr (in_mapped ps o i)

mapped_in : (os : List Operation) (x : Id) → IsIn x (map (λ (p : Operation). p.id) os) → (o : Operation) × IsIn o os × (o.id ≡ x)
mapped_in [] x i = absurd i
mapped_in (p ∷ ps) x (inl e) = (p, inl refl, sym e)
mapped_in (p ∷ ps) x (inr i) = let (o, j, e) = mapped_in ps x i in (o, inr j, e)

module _ (os : List Operation) (w : IsWritten os) where
  abbrev held : List Operation
  held = held_set os

  abbrev fails : Operation → Bool
  fails o = not (meets_rules held o)

  abbrev breaking : List Id
  breaking = map (λ (o : Operation). o.id) (filter fails (standing held))

  there : (x : Id) → BreaksRules held x → IsIn x breaking
  there x breaks = subst (λ y. IsIn y breaking) breaks.id (in_mapped (filter fails (standing held)) breaks.one
      (one_kept fails (standing held) breaks.one (ap not (test_fails (meets_rules held breaks.one) (λ e. breaks.broken ((rules_decide os w breaks.one breaks.there).0 e)))) breaks.there))

  back : (x : Id) → IsIn x breaking → BreaksRules held x
  back x i =
      let (o, j, e) = mapped_in (filter fails (standing held)) x i in
      let kept = kept_one fails (standing held) o j in
      record { one = o; there = kept.1; id = e; broken = λ meets. true≢false (sym kept.0 ∙ ap not ((rules_decide os w o kept.1).1 meets)) }

  pub dishonest_none : dishonest_of held ≡ None ↔ AreHonest held
  dishonest_none = (
    (λ e o i. elim (cases_Bool (meets_rules held o)) [
      | inl meets ↦ (rules_decide os w o i).0 meets
      | inr fail ↦ absurd (no_smallest breaking e o.id (in_mapped (filter fails (standing held)) o (one_kept fails (standing held) o (ap not fail) i)))
    ]),
    (λ honest. none_smallest breaking (λ x i. let breaks = back x i in breaks.broken (honest breaks.one breaks.there))),
  )

  pub dishonest_some : (x : Id) → dishonest_of held ≡ Some x ↔ (BreaksRules held x × ((y : Id) → BreaksRules held y → is_smaller y x ≡ false))
  dishonest_some x = (
    (λ e. let least = smallest_is breaking x e in (back x least.0, λ y breaks. least.1 y (there y breaks))),
    (λ least. is_smallest breaking x (there x least.0, λ y i. least.1 y (back y i))),
  )
