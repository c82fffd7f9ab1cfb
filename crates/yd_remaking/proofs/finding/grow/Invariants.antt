use Rattle.std.proofs.Common.{◌≡◌, ◌+◌, ◌-◌, ◌≤◌, ◌++◌, length}
use Rattle.yd_words.specs.Each.{Each}
use Rattle.yd_state.specs.Lent.{units_left}
use Rattle.yd_copying.specs.Piece.{IsPiece, pieces_units}
use Rattle.yd_remaking.specs.Group.{row_behind}
use Rattle.yd_remaking.specs.Parts.{contents_of}
use Rattle.yd_remaking.specs.Rows.{HoldValid}
use Rattle.yd_remaking.proofs.finding.grow.Given as goal

-- with what goes on from here, all that goes on is there
abbrev pub invariant-loop-next : goal.invariant-loop-next
invariant-loop-next l = record {
  left_most : l.left ≤ l.fn.most;
  units : pieces_units l.pieces.items ++ contents_of (row_behind l.fn.kind l.next l.left (units_left l.view))
      ≡ pieces_units l.initial.pieces.items ++ contents_of (row_behind l.fn.kind l.fn.next l.fn.most (units_left l.initial.view));
  len : (l.fn.most - l.left) + length (row_behind l.fn.kind l.next l.left (units_left l.view))
      ≡ length (row_behind l.fn.kind l.fn.next l.fn.most (units_left l.initial.view));
  pieces : Each (IsPiece l.fn.kind) l.pieces.items;
  longer : length l.initial.pieces.items ≤ length l.pieces.items;
  valid : HoldValid (units_left l.view);
}

abbrev pub decreases-loop-next : goal.decreases-loop-next
decreases-loop-next l = length (units_left l.view)
