use Rattle.yd_state.proofs.TellingLemmas.{IsTelling}
use Rattle.yd_state.proofs.less.tell.Given as goal

abbrev pub invariant-loop-one : goal.invariant-loop-one
invariant-loop-one l = IsTelling l.held l.fn.kept l.kept l.less.items

abbrev pub decreases-loop-one : goal.decreases-loop-one
decreases-loop-one l = goal.left-loop-one l
