use Rattle.std.proofs.Common.{◌≡◌, ◌++◌, length}
use Rattle.yd_held.specs.Telling.{AreHeldLess}
use Rattle.yd_held.proofs.telling.held_less.Given as goal

abbrev pub invariant-loop-entry : goal.invariant-loop-entry
invariant-loop-entry l = record {
  all : l.yielded ++ l.entry-iterator ≡ l.entries;
  counted : l.at ≡ length l.yielded;
  told : AreHeldLess l.from l.entries l.at l.told.items;
}
