use Rattle.std.proofs.Common.{◌≡◌, ◌++◌, reverse}
use Rattle.std.specs.List.{sum_by}
use Rattle.yd_checking.specs.Counts.{clock_reached}
use Rattle.yd_checking.proofs.counts.sum_of_clocks.Given as goal

abbrev pub invariant-loop-entry : goal.invariant-loop-entry
invariant-loop-entry l = record {
  all : l.yielded ++ l.entry-iterator ≡ reverse l.vector;
  summed : l.sum ≡ sum_by clock_reached l.yielded;
}
