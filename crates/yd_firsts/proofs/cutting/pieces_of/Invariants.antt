use Rattle.std.proofs.Common.{take}
use Rattle.yd_firsts.specs.Pieces.{ArePiecesOf}
use Rattle.yd_firsts.proofs.cutting.pieces_of.Given as goal

abbrev pub invariant-loop-stretch : goal.invariant-loop-stretch
invariant-loop-stretch l = ArePiecesOf l.pieces.items (take l.stretch-index l.stretches)
