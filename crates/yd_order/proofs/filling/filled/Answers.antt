use Rattle.std.proofs.Common.{subst, arith}
use Rattle.yd_order.specs.Filling.{AreFilledBelow}
use Rattle.yd_order.proofs.PairLemmas.{none_filled, all_filled}
use Rattle.yd_order.proofs.filling.filled.Goals as goal

pub loop-number-init : goal.loop-number-init
loop-number-init c = none_filled c.args.rows.now c.args.by_neighbours.now c.in_ok-cells.cells.items c.in_ok-cells.ensures

pub returns-clause-filled : goal.returns-clause-filled
returns-clause-filled c =
    all_filled c.args.rows.now c.args.by_neighbours.now c.loop-number.cells.items c.requires.numbering
    (subst (AreFilledBelow c.args.rows.now c.args.by_neighbours.now c.loop-number.cells.items) (omega (arith, c.loop-number-test.false)) c.loop-number.invariant)
