use Rattle.std.proofs.Common.{◌≡◌, ◌++◌, map, drop}
use Rattle.yd_ops.specs.View.{unit_value}
use Rattle.yd_copying.specs.Content.{values_in}
use Rattle.yd_copying.specs.Piece.{pieces_units}
use Rattle.yd_copying.proofs.values.json_units.Given as goal

-- with the pieces that are left, all are copied
abbrev pub invariant-loop-piece : goal.invariant-loop-piece
invariant-loop-piece l = map unit_value l.units ++ values_in (pieces_units (drop l.piece-index l.pieces)) ≡ values_in (pieces_units l.pieces)
