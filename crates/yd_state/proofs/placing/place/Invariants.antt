use Rattle.std.proofs.Common.{◌-◌, length}
use Rattle.yd_state.proofs.PlacingLemmas.{IsPlacing}
use Rattle.yd_state.proofs.placing.place.Given as goal

abbrev pub invariant-loop-done : goal.invariant-loop-done
invariant-loop-done l = IsPlacing l.held l.order l.fn.kept l.kept l.done

abbrev pub decreases-loop-done : goal.decreases-loop-done
decreases-loop-done l = length l.order - l.done
