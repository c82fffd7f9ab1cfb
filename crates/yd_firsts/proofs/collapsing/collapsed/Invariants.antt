use Rattle.std.proofs.Common.{take}
use Rattle.yd_firsts.specs.Pieces.{StandFor}
use Rattle.yd_firsts.proofs.collapsing.collapsed.Given as goal

abbrev pub invariant-loop-piece : goal.invariant-loop-piece
invariant-loop-piece l = StandFor l.pieces (take l.piece-index l.pieces) l.ones.items
