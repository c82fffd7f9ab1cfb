use Rattle.std.proofs.Common.{◌≤◌, length}
use Rattle.yd_honesty.specs.Judging.{AreEnds}
use Rattle.yd_honesty.proofs.ends.ends_of.Given as goal

abbrev pub decreases-loop-at : goal.decreases-loop-at
decreases-loop-at l = l.at

abbrev pub invariant-loop-at : goal.invariant-loop-at
invariant-loop-at l = record {
  inside : l.at ≤ length l.ids;
  are : AreEnds l.received l.ids l.ends.items l.at;
}
