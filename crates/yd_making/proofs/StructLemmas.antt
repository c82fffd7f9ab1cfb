-- The structs of steps that are taken out one after another.
use Rattle.std.proofs.Common.{◌≡◌, ◌<◌, ◌+◌, ◌^◌, ℕ, Bool, true, false, nat_le, List, [], ◌∷◌, ◌++◌, map, Option, Some, None, refl, sym, ap, ap₂, ◌∙◌, subst, arith, tests, append_assoc}
use Rattle.std.specs.Prelude.{reverse, if◌then◌else◌}
use Rattle.std.proofs.lemmas.List.{reverse-append}
use Rattle.yd_ids.specs.declared.id.Client.{Client}
use Rattle.yd_ids.specs.declared.id.Id.{Id}
use Rattle.yd_ops.specs.Value.{item, RunValue, StructValue}
use Rattle.yd_editing.specs.Step.{Step, make, remove, Refusal, clock_full}
use Rattle.yd_editing.specs.Refused.{clock_refusal}
use Rattle.yd_making.specs.declared.step.Step.{Step as StepGiven}
use Rattle.yd_making.specs.Steps.{step_value, steps_value, len_of_step}
use Rattle.yd_making.specs.Rights.{right_first, rights_behind, runs_with}

-- the items of runs
abbrev pub items_of : List RunValue → List StructValue
items_of = map (λ r. item r)

one_more : (client : Client) (clock : ℕ) (rights : List (Option Id)) (step : Step) (steps : List Step) →
    items_of (runs_with client clock rights (step ∷ steps))
    ≡ items_of (runs_with client clock (right_first rights ∷ []) (step ∷ [])) ++ items_of (runs_with client (clock + len_of_step step) (rights_behind rights) steps)
one_more client clock rights (make name after content) steps = refl
one_more client clock rights (remove spans) steps = ap (λ k. items_of (runs_with client k (rights_behind rights) steps)) same
  where
    same : clock ≡ clock + 0
    same = omega arith

module _ (steps left : List StepGiven) (step : StepGiven) (e : steps ≡ left ++ step ∷ []) where
  turned : reverse steps ≡ step ∷ reverse left
  turned = ap reverse e ∙ reverse-append left (step ∷ [])

  -- the next step is made, and the others come behind it
  pub next_made : (client : Client) (clock : ℕ) (rights others : List (Option Id)) (right : Option Id) (done made whole : List StructValue) → right ≡ right_first rights →
      others ≡ rights_behind rights → made ≡ done ++ items_of (runs_with client clock (right ∷ []) (step_value step ∷ [])) →
      done ++ items_of (runs_with client clock rights (steps_value (reverse steps))) ≡ whole →
      made ++ items_of (runs_with client (clock + len_of_step (step_value step)) others (steps_value (reverse left))) ≡ whole
  next_made client clock rights others right done made whole first behind one so_far =
      ap (λ m. m ++ items_of (runs_with client (clock + len_of_step (step_value step)) others (steps_value (reverse left)))) one
      ∙ append_assoc done (items_of (runs_with client clock (right ∷ []) (step_value step ∷ []))) _
      ∙ ap (λ m. done ++ m) (ap₂ (λ (r : Option Id) (rs : List (Option Id)). items_of (runs_with client clock (r ∷ []) (step_value step ∷ []))
      ++ items_of (runs_with client (clock + len_of_step (step_value step)) rs (steps_value (reverse left)))) first behind
      ∙ sym (one_more client clock rights (step_value step) (steps_value (reverse left))))
      ∙ ap (λ xs. done ++ items_of (runs_with client clock rights (steps_value xs))) (sym turned)
      ∙ so_far

  -- and it fits, as the others do
  pub next_fits : (clock : ℕ) → clock < 2 ^ 53 → clock_refusal clock (steps_value (reverse steps)) ≡ None →
      (clock + len_of_step (step_value step) < 2 ^ 53) × (clock_refusal (clock + len_of_step (step_value step)) (steps_value (reverse left)) ≡ None)
  next_fits clock bound fits = go (step_value step) (ap (λ xs. clock_refusal clock (steps_value xs)) (sym turned) ∙ fits)
    where
      not_some : (n : ℕ) → ◌≡◌ {A = Option Refusal} (Some (clock_full n)) None → ⊥
      not_some n f = absurd cc

      same : clock ≡ clock + 0
      same = omega arith

      go : (s : Step) → clock_refusal clock (s ∷ steps_value (reverse left)) ≡ None →
          (clock + len_of_step s < 2 ^ 53) × (clock_refusal (clock + len_of_step s) (steps_value (reverse left)) ≡ None)
      go (make name after content) f = fit (nat_le (2 ^ 53) (clock + len_of_step (make name after content))) refl f
        where
          len : ℕ
          len = len_of_step (make name after content)

          fit : (t : Bool) → nat_le (2 ^ 53) (clock + len_of_step (make name after content)) ≡ t →
              (if t then Some (clock_full clock) else clock_refusal (clock + len_of_step (make name after content)) (steps_value (reverse left))) ≡ None →
              (clock + len_of_step (make name after content) < 2 ^ 53) × (clock_refusal (clock + len_of_step (make name after content)) (steps_value (reverse left)) ≡ None)
          fit true g h = absurd (not_some clock h)
          fit false g h = (grind (arith, tests), h)
      go (remove spans) f = (omega (arith, bound), ap (λ k. clock_refusal k (steps_value (reverse left))) (sym same) ∙ f)
