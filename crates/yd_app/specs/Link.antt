-- The network of a run: a board before it, and after it (own).
use Rattle.yd_serving.specs.Board.{Board}

-- what a board tells and how many faults it counted, before and after
pub record Link : Type 0 where
  pub before : Board
  pub now : Board

-- the board that was so, and is so
abbrev pub link_of : Board → Board → Link
link_of before now = record { before = before; now = now }
