use Rattle.std.proofs.Common.{◌≡◌, ◌++◌, ◌-◌, length, drop}
use Rattle.yd_copying.specs.Content.{whole_units}
use Rattle.yd_copying.proofs.mending.whole.Given as goal

-- with what is left, all is whole
abbrev pub invariant-loop-at : goal.invariant-loop-at
invariant-loop-at l = l.whole.items ++ whole_units (drop l.at l.units) ≡ whole_units l.units

abbrev pub decreases-loop-at : goal.decreases-loop-at
decreases-loop-at l = length l.units - l.at
