-- Runs as stretches (own).
use Rattle.std.specs.Prelude.{◌+◌, List, [], ◌∷◌, ◌++◌}
use Rattle.yd_ids.specs.Id.{IsClock}
use Rattle.yd_ops.specs.Operation.{Operation, operations_of_run}
use Rattle.yd_ops.specs.Value.{len_of, RunValue}
use Rattle.yd_order.specs.declared.stretch.Stretch.{Stretch}

-- the operations of runs, in their order
abbrev pub operations_of_runs : List RunValue → List Operation
operations_of_runs [] = []
operations_of_runs (run ∷ runs) = operations_of_run run ++ operations_of_runs runs

-- the clock behind the run's last unit is below 2^53
abbrev pub RunEndsAtClock : RunValue → Type 0
RunEndsAtClock run = IsClock (run.id.clock + len_of run.content)

-- what the order sees of a run
abbrev pub stretch_of : RunValue → Stretch
stretch_of run = record { id = run.id; len = len_of run.content; left = run.left; right = run.right }
