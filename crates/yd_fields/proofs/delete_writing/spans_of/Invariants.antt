use Rattle.std.proofs.Common.{◌≡◌}
use Rattle.yd_fields.proofs.delete_writing.spans_of.Given as goal

abbrev pub invariant-loop-span : goal.invariant-loop-span
invariant-loop-span l = l.spans.items ≡ l.yielded
