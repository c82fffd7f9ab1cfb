use Rattle.std.proofs.Common.{◌≡◌, ◌++◌, drop}
use Rattle.yd_copying.specs.Content.{texts_in}
use Rattle.yd_copying.specs.Piece.{pieces_units}
use Rattle.yd_copying.proofs.values.texts.Given as goal

-- with the pieces that are left, all are copied
abbrev pub invariant-loop-piece : goal.invariant-loop-piece
invariant-loop-piece l = l.units.items ++ texts_in (pieces_units (drop l.piece-index l.pieces)) ≡ texts_in (pieces_units l.pieces)
