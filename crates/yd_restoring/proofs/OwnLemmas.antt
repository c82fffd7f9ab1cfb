-- What is made again of units of one list without a key: it is made in this list, and nothing is made in a list with a key.
use Rattle.std.proofs.Common.{◌≡◌, ℕ, zero, suc, ◌-◌, ◌≤◌, ◌||◌, Bool, true, false, List, [], ◌∷◌, ◌++◌, length, nat_lt, Some, refl, sym, ap, ap₂, ◌∙◌, subst, arith}
use Rattle.std.specs.Prelude.{if◌then◌else◌, min}
use Rattle.yd_ids.specs.declared.id.Id.{Id}
use Rattle.yd_ids.specs.declared.id.Span.{Span}
use Rattle.yd_ops.specs.declared.lists.List.{List as DocList}
use Rattle.yd_ops.specs.Operation.{later_id}
use Rattle.yd_meaning.specs.Held.{is_in_span, is_named}
use Rattle.yd_meaning.specs.Names.{has_key}
use Rattle.yd_state.specs.Lent.{Lent}
use Rattle.yd_subsets.specs.Below.{span_below}
use Rattle.yd_editing.specs.Step.{Step, make, remove}
use Rattle.yd_editing.specs.TextLaw.{MakesIn}
use Rattle.yd_undo.specs.Remade.{Seen, group_in, step_of_group, steps_from, steps_of_groups, step_of_key, key_steps_from, steps_of_keys}
use Rattle.yd_restoring.proofs.LeftLemmas.{span_from, in_span_is, in_front, in_next}

makes_both : (name : DocList) (steps more : List Step) → MakesIn name steps → MakesIn name more → MakesIn name (steps ++ more)
makes_both name [] more f g = g
makes_both name (make other after content ∷ steps) more f g = (f.0, makes_both name steps more f.1 g)
makes_both name (remove spans ∷ steps) more f g = makes_both name steps more f g

or_true : (t u : Bool) → u ≡ true → t || u ≡ true
or_true true u e = refl
or_true false u e = e

below_within : (clocks : ℕ → ℕ) (span : Span) → (span_below clocks span).len ≤ span.len
below_within clocks span = go (nat_lt span.clock (clocks span.client.0))
  where
    go : (t : Bool) → (if t then min span.len (clocks span.client.0 - span.clock) else 0) ≤ span.len
    go true = omega arith
    go false = omega arith

module _ (seen : Seen) (name : DocList) (no_key : has_key name ≡ false) where
  step_own : (x : Id) (group : List Lent) → MakesIn name (step_of_group seen (Some name) x group)
  step_own x [] = tt
  step_own x (u ∷ us) = (refl, tt)

  from_own : (x : Id) (taken len : ℕ) → ((y : Id) → is_in_span (span_from x len) y ≡ true → seen.list_of y ≡ Some name) → MakesIn name (steps_from seen x taken len)
  from_own x taken zero own = tt
  from_own x (suc taken) (suc len) own = from_own (later_id x 1) taken len (λ y e. own y (in_next x y len e))
  from_own x zero (suc len) own = makes_both name (step_of_group seen (seen.list_of x) x (group_in seen (seen.list_of x) x (suc len)))
      (steps_from seen (later_id x 1) (length (group_in seen (seen.list_of x) x (suc len)) - 1) len)
      (subst (λ l. MakesIn name (step_of_group seen l x (group_in seen (seen.list_of x) x (suc len)))) (sym (own x (in_span_is (span_from x (suc len)) x (refl, omega arith, omega arith))))
      (step_own x (group_in seen (seen.list_of x) x (suc len))))
      (from_own (later_id x 1) (length (group_in seen (seen.list_of x) x (suc len)) - 1) len (λ y e. own y (in_next x y len e)))

  keys_from_none : (deleted : List Span) (x : Id) (len : ℕ) → ((y : Id) → is_in_span (span_from x len) y ≡ true → seen.list_of y ≡ Some name) →
      key_steps_from seen deleted x len ≡ []
  keys_from_none deleted x zero own = refl
  keys_from_none deleted x (suc len) own =
      ap₂ (λ us vs. us ++ vs) (ap (λ l. step_of_key seen deleted l x) (own x (in_span_is (span_from x (suc len)) x (refl, omega arith, omega arith))) ∙ no_step)
      (keys_from_none deleted (later_id x 1) len (λ y e. own y (in_next x y len e)))
    where
      no_step : step_of_key seen deleted (Some name) x ≡ []
      no_step = rw no_key refl

  in_below : (span : Span) (y : Id) → is_in_span (span_from (record { client = span.client; clock = span.clock }) (span_below seen.basis.vector span).len) y ≡ true →
      is_in_span span y ≡ true
  in_below span y e = in_front (record { client = span.client; clock = span.clock }) y span.len (span_below seen.basis.vector span).len (below_within seen.basis.vector span) e

  -- ---- lemmas for callers

  pub groups_own : (spans : List Span) → ((y : Id) → is_named spans y ≡ true → seen.list_of y ≡ Some name) → MakesIn name (steps_of_groups seen spans)
  groups_own [] own = tt
  groups_own (span ∷ spans) own = makes_both name (steps_from seen (record { client = span.client; clock = span.clock }) 0 (span_below seen.basis.vector span).len)
      (steps_of_groups seen spans)
      (from_own (record { client = span.client; clock = span.clock }) 0 (span_below seen.basis.vector span).len (λ y e. own y (ap (λ t. t || is_named spans y) (in_below span y e))))
      (groups_own spans (λ y e. own y (or_true (is_in_span span y) (is_named spans y) e)))

  pub keys_none : (deleted spans : List Span) → ((y : Id) → is_named spans y ≡ true → seen.list_of y ≡ Some name) → steps_of_keys seen deleted spans ≡ []
  keys_none deleted [] own = refl
  keys_none deleted (span ∷ spans) own = ap₂ (λ us vs. us ++ vs)
      (keys_from_none deleted (record { client = span.client; clock = span.clock }) (span_below seen.basis.vector span).len
      (λ y e. own y (ap (λ t. t || is_named spans y) (in_below span y e))))
      (keys_none deleted spans (λ y e. own y (or_true (is_in_span span y) (is_named spans y) e)))

  -- all that is made is made in this list, or nothing is
  pub remade_own : (deleted : List Span) → ((y : Id) → is_named deleted y ≡ true → seen.list_of y ≡ Some name) →
      MakesIn name (steps_of_groups seen deleted ++ steps_of_keys seen deleted deleted)
  remade_own deleted own = makes_both name (steps_of_groups seen deleted) (steps_of_keys seen deleted deleted) (groups_own deleted own)
      (subst (λ steps. MakesIn name steps) (sym (keys_none deleted deleted own)) tt)
