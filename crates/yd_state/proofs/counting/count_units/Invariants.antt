use Rattle.std.proofs.Common.{◌≡◌, ◌*◌, ◌≤◌, ◌++◌, length}
use Rattle.std.specs.List.{sum_by}
use Rattle.yd_state.specs.Waiting.{waiting_units}
use Rattle.yd_state.proofs.counting.count_units.Given as goal

abbrev pub invariant-loop-units : goal.invariant-loop-units
invariant-loop-units l = record {
  all : l.yielded ++ l.units-iterator ≡ l.entries;
  counted : l.count ≡ sum_by waiting_units l.yielded;
  few : l.count ≤ length l.yielded * 18446744073709551615;
}
