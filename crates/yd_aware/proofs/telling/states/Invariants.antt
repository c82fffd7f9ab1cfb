use Rattle.std.proofs.Common.{◌≡◌, ◌++◌}
use Rattle.yd_sync.specs.Table.{states_of}
use Rattle.yd_aware.proofs.telling.states.Given as goal

abbrev pub invariant-loop-client : goal.invariant-loop-client
invariant-loop-client l = l.told ++ states_of l.client-iterator ≡ states_of l.rows.entries
