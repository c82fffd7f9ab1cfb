-- What is found of a unit says whether a place is refused, and what stands behind it.
use Rattle.std.proofs.Common.{◌≡◌, Bool, true, false, List, Option, Some, None, map, refl, sym, ap, ◌∙◌, subst}
use Rattle.std.specs.Prelude.{is_some, if◌then◌else◌}
use Rattle.yd_words.specs.Test.{is_some_and}
use Rattle.yd_ids.specs.declared.id.Id.{Id}
use Rattle.yd_ops.specs.Operation.{Operation}
use Rattle.yd_ops.specs.Received.{has_operation}
use Rattle.yd_editing.specs.Step.{Refusal, no_place}
use Rattle.yd_editing.specs.Made.{units_behind, id_of_first}
use Rattle.yd_editing.specs.Refused.{after_refusal, has_high}
use Rattle.yd_state.specs.Lent.{lent}
use Rattle.yd_making.specs.declared.fault.EditFault.{EditFault}
use Rattle.yd_making.specs.declared.fault.EditFault.TheVariants.{NoPlace}
use Rattle.yd_making.specs.declared.finding.Found.{Found}
use Rattle.yd_making.specs.Finding.{first_id, found_in}
use Rattle.yd_making.specs.Steps.{fault_given}
use Rattle.yd_making.proofs.FindingLemmas.{found_there, found_high, next_found, found_next, first_lent_id}

module _ (is_deleted : Id → Bool) (units : List Operation) (y : Id) (after : Option Id) (is : after ≡ Some y) where
  told : (t : Bool) → has_operation units y ≡ t → fault_given (after_refusal units after) ≡ fault_given (if t then None else Some (no_place y))
  told t e = ap (λ z. fault_given (after_refusal units z)) is ∙ ap (λ s. fault_given (if s then None else Some (no_place y))) e

  -- where it is not found, the place is none
  pub absent_given : None ≡ found_in y (map (lent is_deleted) units) → Some (NoPlace y) ≡ fault_given (after_refusal units after)
  absent_given e = sym (told false (sym (found_there is_deleted y units) ∙ ap is_some (sym e)))

  -- where it is found, the place is one
  pub present_given : (found : Found) → Some found ≡ found_in y (map (lent is_deleted) units) → ◌≡◌ {A = Option EditFault} None (fault_given (after_refusal units after))
  present_given found e = sym (told true (sym (found_there is_deleted y units) ∙ ap is_some (sym e)))

  -- what stands behind it
  pub next_given : (found : Option Found) → found ≡ found_in y (map (lent is_deleted) units) → next_found is_deleted y found ≡ id_of_first (units_behind after units)
  next_given found e = ap (next_found is_deleted y) e ∙ found_next is_deleted y units ∙ ap (λ z. id_of_first (units_behind z units)) (sym is)

-- and whether it is a first half
pub high_given : (is_deleted : Id → Bool) (units : List Operation) (y : Id) (found : Option Found) → found ≡ found_in y (map (lent is_deleted) units) →
    is_some_and (λ (f : Found). f.is_high) found ≡ has_high units y
high_given is_deleted units y found e = ap (is_some_and (λ (f : Found). f.is_high)) e ∙ found_high is_deleted y units

-- the first unit stands behind the front
pub front_given : (is_deleted : Id → Bool) (units : List Operation) (after first : Option Id) → after ≡ None → first ≡ first_id (map (lent is_deleted) units) →
    first ≡ id_of_first (units_behind after units)
front_given is_deleted units after first is e = e ∙ first_lent_id is_deleted units ∙ ap (λ z. id_of_first (units_behind z units)) (sym is)
