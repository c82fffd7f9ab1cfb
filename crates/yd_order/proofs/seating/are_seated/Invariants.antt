use Rattle.std.proofs.Common.{ℕ, ◌<◌}
use Rattle.yd_order.specs.Seating.{IsSeated}
use Rattle.yd_order.proofs.seating.are_seated.Given as goal

abbrev pub invariant-loop-at : goal.invariant-loop-at
invariant-loop-at l = (at : ℕ) → at < l.at → IsSeated l.proposal l.seats at
