use Rattle.yd_state.proofs.OutLemmas.{IsTaking}
use Rattle.yd_state.proofs.back.take_out.Given as goal

abbrev pub invariant-loop-left : goal.invariant-loop-left
invariant-loop-left l = IsTaking l.held l.order l.fn.kept l.kept l.left

abbrev pub decreases-loop-left : goal.decreases-loop-left
decreases-loop-left l = l.left
