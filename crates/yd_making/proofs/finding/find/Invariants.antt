use Rattle.std.proofs.Common.{◌≡◌, length}
use Rattle.yd_state.specs.Lent.{units_left}
use Rattle.yd_making.specs.Finding.{found_in}
use Rattle.yd_making.proofs.finding.find.Given as goal

-- the unit is not among those that came
abbrev pub invariant-loop-piece : goal.invariant-loop-piece
invariant-loop-piece l = found_in l.id (units_left l.view) ≡ found_in l.id (units_left l.initial.view)

abbrev pub decreases-loop-piece : goal.decreases-loop-piece
decreases-loop-piece l = length (units_left l.view)
