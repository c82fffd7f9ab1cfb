use Rattle.std.proofs.Common.{◌↔◌, drop}
use Rattle.yd_units.specs.Half.{IsWhole}
use Rattle.yd_units.proofs.HalfLemmas.{WholeAfter}
use Rattle.yd_units.proofs.half.are_whole.Given as goal

abbrev pub invariant-loop-i : goal.invariant-loop-i
invariant-loop-i l = IsWhole l.units ↔ WholeAfter l.behind (drop l.i l.units)
