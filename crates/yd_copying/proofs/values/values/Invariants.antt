use Rattle.std.proofs.Common.{◌≡◌, drop}
use Rattle.yd_any.specs.AnyView.{any_trees}
use Rattle.yd_any.specs.Rows.{trees_and}
use Rattle.yd_copying.specs.Content.{trees_in}
use Rattle.yd_copying.specs.Piece.{pieces_units}
use Rattle.yd_copying.proofs.values.values.Given as goal

-- with the pieces that are left, all are copied
abbrev pub invariant-loop-piece : goal.invariant-loop-piece
invariant-loop-piece l = trees_and (any_trees l.values) (trees_in (pieces_units (drop l.piece-index l.pieces))) ≡ trees_in (pieces_units l.pieces)
