use Rattle.std.proofs.Common.{◌≡◌, ◌++◌}
use Rattle.yd_ids.proofs.set.copied.Given as goal

abbrev pub invariant-loop-span : goal.invariant-loop-span
invariant-loop-span l = l.copy.items ++ l.span-iterator ≡ l.spans.items
