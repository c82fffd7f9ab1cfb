use Rattle.yd_modes.proofs.MarkLemmas.{AreBelow}
use Rattle.yd_modes.proofs.marks.place_of.Given as goal

abbrev pub invariant-loop-i : goal.invariant-loop-i
invariant-loop-i l = AreBelow l.key l.i l.marks
