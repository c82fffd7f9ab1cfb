use Rattle.std.proofs.Common.{◌≡◌, ◌++◌}
use Rattle.yd_meaning.specs.Held.{count_of_ids}
use Rattle.yd_generating.proofs.counting.count_ids.Given as goal

abbrev pub invariant-loop-span : goal.invariant-loop-span
invariant-loop-span l = record {
  all : l.yielded ++ l.span-iterator ≡ l.ids;
  counted : l.count ≡ count_of_ids l.yielded;
}
