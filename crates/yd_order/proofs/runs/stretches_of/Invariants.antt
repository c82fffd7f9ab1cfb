use Rattle.std.proofs.Common.{◌≡◌, map, take}
use Rattle.yd_ops.specs.View.{run_value}
use Rattle.yd_order.specs.Runs.{stretch_of}
use Rattle.yd_order.proofs.runs.stretches_of.Given as goal

abbrev pub invariant-loop-run : goal.invariant-loop-run
invariant-loop-run l = l.stretches.items ≡ map stretch_of (map run_value (take l.run-index l.runs))
