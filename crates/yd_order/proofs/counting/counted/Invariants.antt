use Rattle.std.proofs.Common.{◌≡◌, ◌++◌}
use Rattle.yd_order.specs.Counting.{ranks_of}
use Rattle.yd_order.proofs.CountingLemmas.{ranks_from}
use Rattle.yd_order.proofs.counting.counted.Given as goal

-- the ranks so far and those that are left are all
abbrev pub invariant-loop-at : goal.invariant-loop-at
invariant-loop-at l = l.ranks.items ++ ranks_from l.rows l.at ≡ ranks_of l.rows
