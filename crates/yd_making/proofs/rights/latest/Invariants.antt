use Rattle.std.proofs.Common.{◌≡◌, ◌<◌, ◌^◌, drop, None}
use Rattle.yd_editing.specs.Refused.{clock_refusal}
use Rattle.yd_making.specs.Rights.{latest_of}
use Rattle.yd_making.specs.Steps.{steps_value}
use Rattle.yd_making.proofs.rights.latest.Given as goal

-- the latest so far
abbrev pub invariant-loop-step : goal.invariant-loop-step
invariant-loop-step l = record {
  bound : l.next < 2 ^ 53;
  fits : clock_refusal l.next (steps_value (drop l.step-index l.steps)) ≡ None;
  found : latest_of l.client l.next (steps_value (drop l.step-index l.steps)) l.list l.after l.latest ≡ latest_of l.client l.clock (steps_value l.steps) l.list l.after None;
}
