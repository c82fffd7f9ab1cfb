use Rattle.yd_order.proofs.PairLemmas.{row_begins, pair_asked, pair_asked_back, row_goes_on}
use Rattle.yd_order.proofs.filling.fill_row.Goals as goal

pub loop-earlier-init : goal.loop-earlier-init
loop-earlier-init c = row_begins c.args.rows.now c.args.by_neighbours.now c.args.cells.now c.args.number c.requires.arranged c.requires.inside c.requires.below

pub fill_pair-requires-clause-asked : goal.fill_pair-requires-clause-asked
fill_pair-requires-clause-asked c =
    pair_asked c.args.rows.now c.args.by_neighbours.now c.loop-earlier.cells c.args.number c.requires.arranged c.requires.inside c.loop-earlier.earlier c.loop-earlier-test.true c.loop-earlier.invariant

pub fill_pair-requires-clause-asked_back : goal.fill_pair-requires-clause-asked_back
fill_pair-requires-clause-asked_back c =
    pair_asked_back c.args.rows.now c.args.by_neighbours.now c.loop-earlier.cells c.args.number c.requires.arranged c.requires.inside c.loop-earlier.earlier c.loop-earlier-test.true c.loop-earlier.invariant

pub loop-earlier-preserved : goal.loop-earlier-preserved
loop-earlier-preserved c =
    row_goes_on c.args.rows.now c.args.by_neighbours.now c.loop-earlier.cells c.args.number c.requires.arranged c.requires.inside c.loop-earlier.earlier c.loop-earlier-test.true c.loop-earlier.invariant c.fill_pair.new.cells c.fill_pair.ensures
