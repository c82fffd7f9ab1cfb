use Rattle.yd_pieces.proofs.PieceLemmas.{filled_behind}
use Rattle.yd_pieces.proofs.walking.PiecesIterIterator.next.Goals as goal

pub invariant_of-self-in-Some-split_first : goal.invariant_of-self-in-Some-split_first
invariant_of-self-in-Some-split_first g c =
    filled_behind c.self.inside.pieces.now c.in-Some-split_first.others.now c.in-Some-split_first.piece.now c.in-Some-split_first.ensures.cases.0 c.self.invariant
