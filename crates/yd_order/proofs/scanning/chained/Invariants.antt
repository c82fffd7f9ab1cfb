use Rattle.std.proofs.Common.{◌≡◌, length}
use Rattle.yd_order.proofs.scanning.chained.Given as goal

abbrev pub invariant-loop : goal.invariant-loop
invariant-loop l = length l.places.items ≡ l.counter
