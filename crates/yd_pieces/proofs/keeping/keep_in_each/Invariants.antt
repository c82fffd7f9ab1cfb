use Rattle.yd_pieces.proofs.KeepingLemmas.{IsKeptTo}
use Rattle.yd_pieces.proofs.keeping.keep_in_each.Given as goal

abbrev pub invariant-loop-i : goal.invariant-loop-i
invariant-loop-i g l = IsKeptTo (g.P.Test.passes l.test) l.fn.pieces.items l.pieces.items l.i
