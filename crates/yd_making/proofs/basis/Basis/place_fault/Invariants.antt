use Rattle.std.proofs.Common.{◌≡◌, drop}
use Rattle.yd_editing.specs.Refused.{first_of_steps, place_refusal}
use Rattle.yd_making.specs.Given.{basis_of_given}
use Rattle.yd_making.specs.Steps.{steps_value, fault_given}
use Rattle.yd_making.proofs.basis.Basis.place_fault.Given as goal

-- the steps so far are not refused
abbrev pub invariant-loop-step : goal.invariant-loop-step
invariant-loop-step l = fault_given (first_of_steps (place_refusal (basis_of_given l.self)) (steps_value (drop l.step-index l.steps)))
    ≡ fault_given (first_of_steps (place_refusal (basis_of_given l.self)) (steps_value l.steps))
