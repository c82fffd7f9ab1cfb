use Rattle.std.proofs.Common.{◌≡◌, ◌<◌, ◌^◌, ◌++◌, None, map, length}
use Rattle.std.specs.Prelude.{reverse}
use Rattle.yd_ops.specs.View.{struct_value}
use Rattle.yd_editing.specs.Refused.{clock_refusal}
use Rattle.yd_making.specs.Rights.{runs_with}
use Rattle.yd_making.specs.Steps.{steps_value}
use Rattle.yd_making.proofs.StructLemmas.{items_of}
use Rattle.yd_making.proofs.structs.structs_of.Given as goal

-- what was made so far, and then the others, are all
abbrev pub invariant-loop-step : goal.invariant-loop-step
invariant-loop-step l = record {
  bound : l.next < 2 ^ 53;
  fits : clock_refusal l.next (steps_value (reverse l.steps.items)) ≡ None;
  made : map struct_value l.structs ++ items_of (runs_with l.client l.next (reverse l.rights.items) (steps_value (reverse l.steps.items)))
      ≡ items_of (runs_with l.client l.clock l.fn.rights.items (steps_value l.fn.steps.items));
}

abbrev pub decreases-loop-step : goal.decreases-loop-step
decreases-loop-step l = length l.steps.items
