use Rattle.std.proofs.Common.{◌-◌, length}
use Rattle.yd_honesty.specs.Judging.{IsEnd}
use Rattle.yd_honesty.proofs.ends.end_of.Given as goal

abbrev pub decreases-loop-end : goal.decreases-loop-end
decreases-loop-end l = length l.ids - l.end

abbrev pub invariant-loop-end : goal.invariant-loop-end
invariant-loop-end l = IsEnd l.received l.ids l.at l.end
