use Rattle.std.proofs.Common.{◌≡◌, ◌++◌}
use Rattle.yd_store.specs.Units.{KeepsUnits}
use Rattle.yd_kept.specs.Marking.{AreParted}
use Rattle.yd_kept.proofs.marking.part_all.Given as goal

abbrev pub invariant-loop-span : goal.invariant-loop-span
invariant-loop-span l = record {
  all : l.yielded ++ l.span-iterator ≡ l.ids;
  parted : AreParted l.store l.yielded;
  units : KeepsUnits l.initial.store l.store;
}
