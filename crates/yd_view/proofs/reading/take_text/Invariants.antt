use Rattle.std.proofs.Common.{take, drop}
use Rattle.yd_view.specs.Halves.{seen_from, TakesIn}
use Rattle.yd_view.proofs.reading.take_text.Given as goal

-- so many units came
abbrev pub invariant-loop-i : goal.invariant-loop-i
invariant-loop-i l = TakesIn l.initial.halves l.halves (seen_from l.id (take l.i (drop l.offset l.units)))
