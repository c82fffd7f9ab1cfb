use Rattle.std.proofs.Common.{length}
use Rattle.yd_state.specs.Lent.{units_left}
use Rattle.yd_arrivals.proofs.telling.tell_list.Given as goal

abbrev pub decreases-loop-piece : goal.decreases-loop-piece
decreases-loop-piece l = length (units_left l.view)
