use Rattle.std.proofs.Common.{take}
use Rattle.yd_state.specs.Coming.{AreCame}
use Rattle.yd_state.proofs.coming.came_of.Given as goal

-- those so far came
abbrev pub invariant-loop-at : goal.invariant-loop-at
invariant-loop-at l = AreCame l.held l.kept (take l.at-index l.order) l.came.items
