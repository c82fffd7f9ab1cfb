use Rattle.std.proofs.Common.{◌≡◌, ◌≢◌, ℕ, zero, suc, ◌<◌, true, List, [], ◌∷◌, Some, None, inl, inr, refl, sym, ap, ◌∙◌, subst, arith, true≢false}
use Rattle.std.specs.Prelude.{slice_index}
use Rattle.yd_words.specs.Member.{IsIn}
use Rattle.yd_ids.specs.declared.id.Id.{Id}
use Rattle.yd_ops.specs.Operation.{Operation}
use Rattle.yd_ops.specs.Value.{string, deleted}
use Rattle.yd_origins.specs.Before.{is_before}
use Rattle.yd_origins.specs.Operations.{table_of_all}
use Rattle.yd_ops.specs.Received.{received_set}
use Rattle.yd_ops.proofs.OneOfLemmas.{operation_with}
use Rattle.yd_meaning.specs.Held.{needs, held_set, standing}
use Rattle.yd_meaning.specs.Order.{operation_set, IsPast, of_need, of_past, MeetsRules, AreHonest}
use Rattle.yd_meaning.specs.Example.{in_root}
use Rattle.yd_meaning.specs.Collected.{unit_id, abc_deleted}
use Rattle.yd_meaning.proofs.ExampleLemmas.{units_are_whole, run_valid}
use Rattle.yd_meaning.proofs.example.all_deleted.Goals as goal

small : (i : ℕ) → slice_index (97 ∷ 98 ∷ 99 ∷ []) i < 0xD800
small zero = omega arith
small (suc zero) = omega arith
small (suc (suc zero)) = omega arith
small (suc (suc (suc i))) = omega arith

abbrev held : List Operation
held = held_set (received_set (abc_deleted ∷ [])).operations

-- each operation needs smaller clocks of its client alone
falls : {x y : Id} → IsPast held x y → y.clock < x.clock
falls (of_need {y = y} o (inl e) f j) = absurd (subst (λ (p : Operation). IsIn y (needs p)) e j)
falls {x = x} (of_need {y = y} o (inr (inl e)) f j) = step y (subst (λ (p : Operation). IsIn y (needs p)) e j)
  where
    step : (y : Id) → IsIn y (unit_id 1 0 ∷ unit_id 1 0 ∷ []) → y.clock < x.clock
    step y (inl g) = omega (arith, ap (λ (z : Id). z.clock) g, ap (λ (p : Operation). p.id.clock) e, ap (λ (z : Id). z.clock) f)
    step y (inr (inl g)) = omega (arith, ap (λ (z : Id). z.clock) g, ap (λ (p : Operation). p.id.clock) e, ap (λ (z : Id). z.clock) f)
    step y (inr (inr k)) = absurd k
falls {x = x} (of_need {y = y} o (inr (inr (inl e))) f j) = step y (subst (λ (p : Operation). IsIn y (needs p)) e j)
  where
    step : (y : Id) → IsIn y (unit_id 1 1 ∷ unit_id 1 1 ∷ []) → y.clock < x.clock
    step y (inl g) = omega (arith, ap (λ (z : Id). z.clock) g, ap (λ (p : Operation). p.id.clock) e, ap (λ (z : Id). z.clock) f)
    step y (inr (inl g)) = omega (arith, ap (λ (z : Id). z.clock) g, ap (λ (p : Operation). p.id.clock) e, ap (λ (z : Id). z.clock) f)
    step y (inr (inr k)) = absurd k
falls (of_need o (inr (inr (inr k))) f j) = absurd k
falls (of_past p q) = let a = falls p in let b = falls q in omega (arith, a, b)

honest : AreHonest held
honest o (inl e) = subst (λ p. MeetsRules held p) (sym e)
    record { one_list = λ p r g h. absurd cc; left_first = tt; past_outside = λ y g past same between. absurd (omega (arith, falls past)) }
honest o (inr (inl e)) = subst (λ p. MeetsRules held p) (sym e)
    record { one_list = λ p r g h. absurd cc; left_first = tt; past_outside = λ y g past same between. outside y (operation_with (standing held) y g) (falls past) between.0 }
  where
    outside : (y : Id) → (p : Operation) × IsIn p (standing held) × (p.id ≡ y) → y.clock < 1 →
        (unit_id 1 0 ≢ y) × (is_before (table_of_all (operation_set (standing held))) (unit_id 1 0) y ≡ true) → ⊥
    outside y (p, inl f, id) lt b = b.0 (ap (λ (q : Operation). q.id) (sym f) ∙ id)
    outside y (p, inr (inl f), id) lt b = absurd (omega (arith, lt, ap (λ (q : Operation). q.id.clock) f, ap (λ (z : Id). z.clock) id))
    outside y (p, inr (inr (inl f)), id) lt b = absurd (omega (arith, lt, ap (λ (q : Operation). q.id.clock) f, ap (λ (z : Id). z.clock) id))
    outside y (p, inr (inr (inr k)), id) lt b = absurd k
honest o (inr (inr (inl e))) = subst (λ p. MeetsRules held p) (sym e)
    record { one_list = λ p r g h. absurd cc; left_first = tt; past_outside = λ y g past same between. outside y (operation_with (standing held) y g) (falls past) between.0 }
  where
    outside : (y : Id) → (p : Operation) × IsIn p (standing held) × (p.id ≡ y) → y.clock < 2 →
        (unit_id 1 1 ≢ y) × (is_before (table_of_all (operation_set (standing held))) (unit_id 1 1) y ≡ true) → ⊥
    outside y (p, inl f, id) lt b = true≢false (sym (subst (λ z. is_before (table_of_all (operation_set (standing held))) (unit_id 1 1) z ≡ true) (sym id ∙ ap (λ (q : Operation). q.id) f) b.1))
    outside y (p, inr (inl f), id) lt b = b.0 (ap (λ (q : Operation). q.id) (sym f) ∙ id)
    outside y (p, inr (inr (inl f)), id) lt b = absurd (omega (arith, lt, ap (λ (q : Operation). q.id.clock) f, ap (λ (z : Id). z.clock) id))
    outside y (p, inr (inr (inr k)), id) lt b = absurd k
honest o (inr (inr (inr k))) = absurd k

pub returns : goal.returns
returns c = record {
  valid = (
    run_valid 1 None (Some in_root) (string (97 ∷ 98 ∷ 99 ∷ [])) (omega arith) tt tt 3 (omega arith) (omega arith) refl (units_are_whole (97 ∷ 98 ∷ 99 ∷ []) small),
    run_valid 1 None (Some in_root) (deleted 3) (omega arith) tt tt 3 (omega arith) (omega arith) refl tt,
  );
  lowers = refl;
  stays = refl;
  operations = refl;
  deletes = refl;
  held = refl;
  all_deleted = refl;
  list = refl;
  honest = honest;
}
