use Rattle.std.proofs.Common.{arith, refl}
use Rattle.yd_pieces.specs.Pieces.{joined}
use Rattle.yd_pieces.proofs.PieceLemmas.{set_first, set_second}
use Rattle.yd_pieces.proofs.cutting.set_in.Goals as goal

pub returns-then-at-start-clause-done : goal.returns-then-at-start-clause-done
returns-then-at-start-clause-done g c =
    set_first (joined c.args.pieces.now.items) (joined c.set_within.new.pieces.items) c.args.last.now.items c.args.at c.args.item c.set_within.ensures.done
    (omega (arith, c.requires.start, c.if-at-start.true))

pub returns-else-at-start-clause-done : goal.returns-else-at-start-clause-done
returns-else-at-start-clause-done g c =
    set_second (joined c.args.pieces.now.items) c.args.last.now.items _ c.args.start c.args.at c.args.item c.requires.start c.if-at-start.false refl
