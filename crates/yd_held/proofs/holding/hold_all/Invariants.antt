use Rattle.yd_held.specs.Held.{held_value}
use Rattle.yd_held.specs.Holding.{count_waiting}
use Rattle.yd_held.proofs.RoundLemmas.{IsRound}
use Rattle.yd_held.proofs.holding.hold_all.Given as goal

abbrev pub invariant-loop-order : goal.invariant-loop-order
invariant-loop-order l = IsRound (held_value l.fn.held) (held_value l.held) l.tries.items l.order.items

abbrev pub decreases-loop-order : goal.decreases-loop-order
decreases-loop-order l = count_waiting l.held.received.entries
