use Rattle.std.proofs.Common.{◌≡◌, drop}
use Rattle.yd_aware.specs.Ending.{ended_each}
use Rattle.yd_aware.proofs.ending.end_each.Given as goal

abbrev pub invariant-loop-entry : goal.invariant-loop-entry
invariant-loop-entry l = ended_each (drop l.entry-index l.ended) l.rows.entries ≡ ended_each l.ended l.fn.rows.entries
