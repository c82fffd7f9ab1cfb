use Rattle.std.proofs.Common.{◌≡◌, ◌++◌}
use Rattle.std.specs.List.{sum_by}
use Rattle.yd_state.specs.Waiting.{waiting_ids}
use Rattle.yd_state.proofs.counting.count_ids.Given as goal

abbrev pub invariant-loop-span : goal.invariant-loop-span
invariant-loop-span l = record {
  all : l.yielded ++ l.span-iterator ≡ l.named;
  counted : l.count ≡ sum_by (waiting_ids l.vector) l.yielded;
}
