use Rattle.std.proofs.Common.{◌≡◌, ◌+◌, ◌-◌, ◌++◌, take, drop}
use Rattle.yd_merge.proofs.parts.copied_units.Given as goal

-- with the units that are left, all are copied
abbrev pub invariant-loop-done : goal.invariant-loop-done
invariant-loop-done l = l.part.items ++ take (l.len - l.done) (drop (l.from + l.done) l.units) ≡ take l.len (drop l.from l.units)

abbrev pub decreases-loop-done : goal.decreases-loop-done
decreases-loop-done l = l.len - l.done
