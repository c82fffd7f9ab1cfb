use Rattle.std.proofs.Common.{◌≡◌, ◌++◌, reverse}
use Rattle.yd_honesty.proofs.ClocksLemmas.{JoinsSo}
use Rattle.yd_honesty.proofs.pasts.join.Given as goal

abbrev pub invariant-loop-client : goal.invariant-loop-client
invariant-loop-client l = record {
  all : l.yielded ++ l.client-iterator ≡ reverse l.other;
  so : JoinsSo l.other l.yielded l.fn.past l.past l.grew;
}
