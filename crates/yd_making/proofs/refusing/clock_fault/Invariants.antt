use Rattle.std.proofs.Common.{◌≡◌, ◌<◌, ◌^◌, drop}
use Rattle.yd_editing.specs.Refused.{clock_refusal}
use Rattle.yd_making.specs.Steps.{steps_value, fault_given}
use Rattle.yd_making.proofs.refusing.clock_fault.Given as goal

-- the steps so far fit
abbrev pub invariant-loop-step : goal.invariant-loop-step
invariant-loop-step l = record {
  bound : l.next < 2 ^ 53;
  fits : clock_refusal l.next (steps_value (drop l.step-index l.steps)) ≡ clock_refusal l.clock (steps_value l.steps);
}
