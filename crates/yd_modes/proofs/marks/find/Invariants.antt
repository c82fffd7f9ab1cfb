use Rattle.yd_modes.proofs.MarkLemmas.{AreOther}
use Rattle.yd_modes.proofs.marks.find.Given as goal

abbrev pub invariant-loop-i : goal.invariant-loop-i
invariant-loop-i l = AreOther l.key l.i l.marks
