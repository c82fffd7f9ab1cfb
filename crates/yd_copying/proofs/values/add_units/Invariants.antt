use Rattle.std.proofs.Common.{◌≡◌, ◌+◌, ◌-◌, ◌++◌, take, drop}
use Rattle.yd_copying.proofs.values.add_units.Given as goal

-- with the units that are left, all are copied
abbrev pub invariant-loop-done : goal.invariant-loop-done
invariant-loop-done l = l.all.items ++ take (l.fn.len - l.done) (drop (l.fn.from + l.done) l.units) ≡ l.initial.all.items ++ take l.fn.len (drop l.fn.from l.units)

abbrev pub decreases-loop-done : goal.decreases-loop-done
decreases-loop-done l = l.fn.len - l.done
