use Rattle.std.proofs.Common.{◌≡◌, ◌+◌, ◌≤◌}
use Rattle.yd_order.specs.Counting.{count_at}
use Rattle.yd_order.proofs.CountingLemmas.{count_from}
use Rattle.yd_order.proofs.counting.count_before.Given as goal

-- those so far and those that are left are all
abbrev pub invariant-loop-other : goal.invariant-loop-other
invariant-loop-other l = (l.count + count_from l.rows l.at l.other ≡ count_at l.rows l.at) × (l.count ≤ l.other)
