use Rattle.std.proofs.Common.{ℕ, ◌<◌}
use Rattle.yd_order.specs.Seating.{Stands}
use Rattle.yd_order.proofs.seating.all_stand.Given as goal

abbrev pub invariant-loop-at : goal.invariant-loop-at
invariant-loop-at l = (at : ℕ) → at < l.at → Stands l.rows l.proposal l.seats at
