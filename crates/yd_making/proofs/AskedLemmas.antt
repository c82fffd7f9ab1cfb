-- Steps that are asked one after another, up to the first that is refused.
use Rattle.std.proofs.Common.{◌≡◌, ◌<◌, ◌≤◌, ◌+◌, ◌-◌, ◌^◌, ℕ, zero, suc, Bool, true, false, ◌||◌, nat_le, List, [], ◌∷◌, Option, Some, None, length, get_or, take, drop, map, refl, sym, ap, ◌∙◌, subst, arith, tests}
use Rattle.std.specs.Prelude.{if◌then◌else◌}
use Rattle.yd_words.specs.Each.{Each}
use Rattle.yd_editing.specs.Step.{Step, make, remove, Refusal, no_place, not_held, clock_full, inside_pair, own_waiting, past_end, first_or}
use Rattle.yd_editing.specs.Refused.{first_of_steps, clock_refusal}
use Rattle.yd_making.specs.declared.step.Step.{Step as StepGiven}
use Rattle.yd_making.specs.declared.fault.EditFault.{EditFault}
use Rattle.yd_making.specs.declared.fault.EditFault.TheVariants.{ClockFull}
use Rattle.yd_making.specs.Steps.{step_value, steps_value, len_of_step, IsProper, fault_of, fault_given}

-- ---- the first of two

pub first_given : (fault : EditFault) (a b : Option Refusal) → Some fault ≡ fault_given a → Some fault ≡ fault_given (first_or a b)
first_given fault None b e = absurd cc
first_given fault (Some refusal) b e = e

pub other_given : (a b : Option Refusal) → ◌≡◌ {A = Option EditFault} None (fault_given a) → fault_given (first_or a b) ≡ fault_given b
other_given None b e = refl
other_given (Some refusal) b e = absurd cc

-- ---- steps

drop-next : {X : Type 0} (x : X) (xs : List X) (i : ℕ) → drop (suc i + 1) (x ∷ xs) ≡ drop (i + 1) xs
drop-next x xs i = ap (λ n. drop n (x ∷ xs)) next
  where
    next : suc i + 1 ≡ suc (i + 1)
    next = omega arith

from_here : (asks : Step → Option Refusal) (xs : List StepGiven) (i : ℕ) (step : StepGiven) → i < length xs → step ≡ get_or xs i step →
    first_of_steps asks (steps_value (drop i xs)) ≡ first_or (asks (step_value step)) (first_of_steps asks (steps_value (drop (i + 1) xs)))
from_here asks [] i step lt e = absurd (omega (arith, lt))
from_here asks (x ∷ xs) zero step lt e = ap (λ s. first_or (asks (step_value s)) (first_of_steps asks (steps_value xs))) (sym e)
from_here asks (x ∷ xs) (suc i) step lt e = from_here asks xs i step (omega (arith, lt)) e
    ∙ ap (λ ys. first_or (asks (step_value step)) (first_of_steps asks (steps_value ys))) (sym (drop-next x xs i))

module _ (asks : Step → Option Refusal) (xs : List StepGiven) (i : ℕ) (step : StepGiven) (whole : Option EditFault) (inside : i < length xs) (is : step ≡ get_or xs i step)
    (so_far : fault_given (first_of_steps asks (steps_value (drop i xs))) ≡ whole) where
  -- a step that is refused tells why
  pub refused_here : (fault : EditFault) → Some fault ≡ fault_given (asks (step_value step)) → Some fault ≡ whole
  refused_here fault e = first_given fault (asks (step_value step)) (first_of_steps asks (steps_value (drop (i + 1) xs))) e
      ∙ ap fault_given (sym (from_here asks xs i step inside is)) ∙ so_far

  -- one that is not leaves it to the others
  pub asked_on : ◌≡◌ {A = Option EditFault} None (fault_given (asks (step_value step))) → fault_given (first_of_steps asks (steps_value (drop (i + 1) xs))) ≡ whole
  asked_on e = sym (other_given (asks (step_value step)) (first_of_steps asks (steps_value (drop (i + 1) xs))) e)
      ∙ ap fault_given (sym (from_here asks xs i step inside is)) ∙ so_far

drop-all : {X : Type 0} (xs : List X) (n : ℕ) → length xs ≤ n → drop n xs ≡ []
drop-all [] zero le = refl
drop-all [] (suc n) le = refl
drop-all (x ∷ xs) zero le = absurd (omega (arith, le))
drop-all (x ∷ xs) (suc n) le = drop-all xs n (omega (arith, le))

-- behind the last none is refused
pub none_refused : (asks : Step → Option Refusal) (xs : List StepGiven) (i : ℕ) (whole : Option EditFault) → length xs ≤ i →
    fault_given (first_of_steps asks (steps_value (drop i xs))) ≡ whole → None ≡ whole
none_refused asks xs i whole past e = ap (λ ys. fault_given (first_of_steps asks (steps_value ys))) (sym (drop-all xs i past)) ∙ e

-- ---- clocks

clock_step : (clock : ℕ) (step : Step) (steps : List Step) → clock < 2 ^ 53 →
    clock_refusal clock (step ∷ steps) ≡ (if nat_le (2 ^ 53) (clock + len_of_step step) then Some (clock_full clock) else clock_refusal (clock + len_of_step step) steps)
clock_step clock (make name after content) steps bound = refl
clock_step clock (remove spans) steps bound =
    ap (λ k. clock_refusal k steps) same ∙ ap (λ t. if t then Some (clock_full clock) else clock_refusal (clock + 0) steps) (sym below)
  where
    same : clock ≡ clock + 0
    same = omega arith

    below : nat_le (2 ^ 53) (clock + 0) ≡ false
    below = grind (arith, tests)

clock_here : (clock : ℕ) (xs : List StepGiven) (i : ℕ) (step : StepGiven) → i < length xs → step ≡ get_or xs i step → clock < 2 ^ 53 →
    clock_refusal clock (steps_value (drop i xs))
    ≡ (if nat_le (2 ^ 53) (clock + len_of_step (step_value step)) then Some (clock_full clock) else clock_refusal (clock + len_of_step (step_value step)) (steps_value (drop (i + 1) xs)))
clock_here clock [] i step lt e bound = absurd (omega (arith, lt))
clock_here clock (x ∷ xs) zero step lt e bound = ap (λ s. clock_refusal clock (step_value s ∷ steps_value xs)) (sym e) ∙ clock_step clock (step_value step) (steps_value xs) bound
clock_here clock (x ∷ xs) (suc i) step lt e bound = clock_here clock xs i step (omega (arith, lt)) e bound
    ∙ ap (λ ys. if nat_le (2 ^ 53) (clock + len_of_step (step_value step)) then Some (clock_full clock) else clock_refusal (clock + len_of_step (step_value step)) (steps_value ys))
    (sym (drop-next x xs i))

module _ (clock : ℕ) (xs : List StepGiven) (i : ℕ) (step : StepGiven) (inside : i < length xs) (is : step ≡ get_or xs i step) (bound : clock < 2 ^ 53) where
  -- a run that would end past the last clock
  pub full_here : 2 ^ 53 ≤ clock + len_of_step (step_value step) → clock_refusal clock (steps_value (drop i xs)) ≡ Some (clock_full clock)
  full_here over = clock_here clock xs i step inside is bound
      ∙ ap (λ t. if t then Some (clock_full clock) else clock_refusal (clock + len_of_step (step_value step)) (steps_value (drop (i + 1) xs))) past
    where
      past : nat_le (2 ^ 53) (clock + len_of_step (step_value step)) ≡ true
      past = grind (arith, tests)

  -- one that fits leaves it to the others
  pub fits_here : clock + len_of_step (step_value step) < 2 ^ 53 →
      clock_refusal clock (steps_value (drop i xs)) ≡ clock_refusal (clock + len_of_step (step_value step)) (steps_value (drop (i + 1) xs))
  fits_here below = clock_here clock xs i step inside is bound
      ∙ ap (λ t. if t then Some (clock_full clock) else clock_refusal (clock + len_of_step (step_value step)) (steps_value (drop (i + 1) xs))) fits
    where
      fits : nat_le (2 ^ 53) (clock + len_of_step (step_value step)) ≡ false
      fits = grind (arith, tests)

  -- where none is refused, each fits
  pub none_full : clock_refusal clock (steps_value (drop i xs)) ≡ None →
      (clock + len_of_step (step_value step) < 2 ^ 53) × (clock_refusal (clock + len_of_step (step_value step)) (steps_value (drop (i + 1) xs)) ≡ None)
  none_full e = go (nat_le (2 ^ 53) (clock + len_of_step (step_value step))) refl (sym (clock_here clock xs i step inside is bound) ∙ e)
    where
      not_some : (n : ℕ) → ◌≡◌ {A = Option Refusal} (Some (clock_full n)) None → ⊥
      not_some n f = absurd cc

      go : (t : Bool) → nat_le (2 ^ 53) (clock + len_of_step (step_value step)) ≡ t →
          (if t then Some (clock_full clock) else clock_refusal (clock + len_of_step (step_value step)) (steps_value (drop (i + 1) xs))) ≡ None →
          (clock + len_of_step (step_value step) < 2 ^ 53) × (clock_refusal (clock + len_of_step (step_value step)) (steps_value (drop (i + 1) xs)) ≡ None)
      go true f g = absurd (not_some clock g)
      go false f g = (grind (arith, tests), g)

-- ---- each step

-- a step among proper ones is so
pub proper_at : (xs : List StepGiven) (i : ℕ) (step : StepGiven) → Each IsProper (steps_value xs) → i < length xs → step ≡ get_or xs i step → IsProper (step_value step)
proper_at [] i step each lt e = absurd (omega (arith, lt))
proper_at (x ∷ xs) zero step each lt e = subst (λ s. IsProper (step_value s)) (sym e) each.0
proper_at (x ∷ xs) (suc i) step each lt e = proper_at xs i step each.1 (omega (arith, lt)) e

-- the first of steps that fit do so
pub fits_front : (clock : ℕ) (xs : List StepGiven) (i : ℕ) → clock_refusal clock (steps_value xs) ≡ None → clock_refusal clock (steps_value (take i xs)) ≡ None
fits_front clock xs zero e = refl
fits_front clock [] (suc i) e = refl
fits_front clock (x ∷ xs) (suc i) e = go (step_value x) e (λ k f. fits_front k xs i f)
  where
    not_some : (n : ℕ) → ◌≡◌ {A = Option Refusal} (Some (clock_full n)) None → ⊥
    not_some n f = absurd cc

    go : (s : Step) → clock_refusal clock (s ∷ steps_value xs) ≡ None →
        ((k : ℕ) → clock_refusal k (steps_value xs) ≡ None → clock_refusal k (steps_value (take i xs)) ≡ None) → clock_refusal clock (s ∷ steps_value (take i xs)) ≡ None
    go (make name after content) f rest = fit (nat_le (2 ^ 53) (clock + len_of_step (make name after content))) f
      where
        fit : (t : Bool) → (if t then Some (clock_full clock) else clock_refusal (clock + len_of_step (make name after content)) (steps_value xs)) ≡ None →
            (if t then Some (clock_full clock) else clock_refusal (clock + len_of_step (make name after content)) (steps_value (take i xs))) ≡ None
        fit true g = absurd (not_some clock g)
        fit false g = rest (clock + len_of_step (make name after content)) g
    go (remove spans) f rest = rest clock f
