use Rattle.yd_honesty.specs.Judging.{IsBest}
use Rattle.yd_honesty.proofs.smallest.judge_units.Given as goal

abbrev pub invariant-loop-at : goal.invariant-loop-at
invariant-loop-at l = IsBest l.received l.list.ids.items l.at l.fn.before l.found
