use Rattle.std.proofs.Common.{◌≡◌, ◌++◌}
use Rattle.yd_sync.specs.Table.{ended_of}
use Rattle.yd_aware.specs.Ending.{ends}
use Rattle.yd_aware.proofs.ending.ended.Given as goal

abbrev pub invariant-loop-client : goal.invariant-loop-client
invariant-loop-client l = l.told ++ ended_of (ends l.ending) l.client-iterator ≡ ended_of (ends l.ending) l.rows.entries
