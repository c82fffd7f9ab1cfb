use Rattle.yd_state.proofs.ReadyingLemmas.{IsFreeing}
use Rattle.yd_state.proofs.less.ready_halves.Given as goal

abbrev pub invariant-loop-n : goal.invariant-loop-n
invariant-loop-n l = IsFreeing l.held l.entry l.fn.less.items l.less.items l.fn.kept l.kept l.n
