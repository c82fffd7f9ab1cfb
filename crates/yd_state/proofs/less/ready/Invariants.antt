use Rattle.yd_state.proofs.ReadyingLemmas.{IsReadying}
use Rattle.yd_state.proofs.less.ready.Given as goal

abbrev pub invariant-loop-at : goal.invariant-loop-at
invariant-loop-at l = IsReadying l.held l.told l.fn.kept l.kept l.less.items l.at-index
