use Rattle.std.proofs.Common.{arith}
use Rattle.std.specs.Prelude.{option_copied}
use Rattle.yd_pieces.specs.Pieces.{joined}
use Rattle.yd_pieces.proofs.FrontLemmas.{front_within, front_last, front_end}
use Rattle.yd_pieces.proofs.searching.front.Goals as goal

pub returns-then-is_last_passed : goal.returns-then-is_last_passed
returns-then-is_last_passed g c =
    front_end (g.P.Test.passes c.args.test.now) (joined c.args.pieces.now) c.args.last.now (option_copied c.last.result) (c.is_last_passed.ensures c.if-is_last_passed.true) c.last.ensures.value

pub returns-then-i-pieces : goal.returns-then-i-pieces
returns-then-i-pieces g c =
    front_within (g.P.Test.passes c.args.test.now) c.args.pieces.now c.args.last.now c.requires.filled c.pieces_passed-i.result c.items_passed.result c.pieces_passed-i.ensures.boundary (option_copied c.front_of.result)
    c.index-pieces-i.result c.if-i-pieces.true c.index-pieces-i.is (rw c.deref-then-i-pieces.ensures.value at c.items_passed.ensures.bound) (rw c.deref-then-i-pieces.ensures.value at c.items_passed.ensures.boundary) (rw c.deref.ensures.value at c.front_of.ensures)

pub returns : goal.returns
returns g c =
    front_last (g.P.Test.passes c.args.test.now) c.args.pieces.now c.args.last.now c.requires.filled c.pieces_passed-i.result c.items_passed-2.result c.pieces_passed-i.ensures.boundary (option_copied c.front_of-2.result)
    c.pieces_passed-i.ensures.bound (omega (arith, c.if-i-pieces.false)) c.items_passed-2.ensures.bound c.items_passed-2.ensures.boundary c.front_of-2.ensures
