use Rattle.std.proofs.Common.{◌≡◌}
use Rattle.yd_v1.proofs.vector_writing.entries_of.Given as goal

abbrev pub invariant-loop-entry : goal.invariant-loop-entry
invariant-loop-entry l = l.entries.items ≡ l.yielded
