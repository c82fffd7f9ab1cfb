use Rattle.std.proofs.Common.{refl}
use Rattle.yd_pieces.proofs.PieceLemmas.{joined_changed}
use Rattle.yd_pieces.proofs.cutting.set_within.Goals as goal

pub returns-clause-done : goal.returns-clause-done
returns-clause-done g c =
    joined_changed c.args.pieces.now.items c.seek-i.result.0 c.seek-i.result.1 c.args.at c.args.item c.index_mut-piece.result.now _
    (rw c.deref.ensures.value at c.seek-i.ensures.piece) c.index_mut-piece.ensures.value (rw c.deref.ensures.value at c.seek-i.ensures.inside) (rw c.deref.ensures.value at c.seek-i.ensures.sum) refl
