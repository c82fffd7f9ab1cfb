use Rattle.yd_honesty.specs.Judging.{IsBestOfAll}
use Rattle.yd_honesty.proofs.smallest.dishonest.Given as goal

abbrev pub invariant-loop-n : goal.invariant-loop-n
invariant-loop-n l = IsBestOfAll l.held.received l.held.names l.n l.smallest
