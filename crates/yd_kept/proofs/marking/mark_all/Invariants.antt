use Rattle.std.proofs.Common.{◌≡◌, ◌++◌}
use Rattle.yd_kept.specs.Marking.{MarksUnits}
use Rattle.yd_kept.proofs.marking.mark_all.Given as goal

abbrev pub invariant-loop-span : goal.invariant-loop-span
invariant-loop-span l = record {
  all : l.yielded ++ l.span-iterator ≡ l.ids;
  marks : MarksUnits l.initial.store l.store l.yielded;
}
