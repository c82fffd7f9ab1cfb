use Rattle.yd_firsts.specs.Pieces.{CutsOff}
use Rattle.yd_firsts.proofs.cutting.push_pieces.Given as goal

abbrev pub invariant-loop-at : goal.invariant-loop-at
invariant-loop-at l = CutsOff l.fn.pieces.items l.pieces.items l.fn.stretch l.rest
