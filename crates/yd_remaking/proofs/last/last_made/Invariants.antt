use Rattle.std.proofs.Common.{◌≡◌, None, length}
use Rattle.yd_state.specs.Lent.{units_left}
use Rattle.yd_remaking.specs.Last.{last_made}
use Rattle.yd_remaking.proofs.last.last_made.Given as goal

-- with what is left, it is the last of all
abbrev pub invariant-loop-piece : goal.invariant-loop-piece
invariant-loop-piece l = last_made l.named l.last (units_left l.view) ≡ last_made l.named None (units_left l.initial.view)

abbrev pub decreases-loop-piece : goal.decreases-loop-piece
decreases-loop-piece l = length (units_left l.view)
