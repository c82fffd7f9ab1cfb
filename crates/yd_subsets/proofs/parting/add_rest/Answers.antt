use Rattle.yd_subsets.proofs.CutLemmas.{cutting_next, cutting_done}
use Rattle.yd_subsets.proofs.parting.add_rest.Goals as goal

pub loop-cut-preserved : goal.loop-cut-preserved
loop-cut-preserved c = cutting_next c.args.rest.now.items c.args.span c.args.other.now c.loop-cut.cut-iterator c.in-Some.cut c.next.new.self c.loop-cut.rest.items c.add_some.new.rest.items
    c.loop-cut.left c.behind-left.result c.below.result c.loop-cut.invariant c.in-Some.ensures.steps c.below.ensures c.in_ok-add_some.ensures c.behind-left.ensures

pub returns-clause-ids : goal.returns-clause-ids
returns-clause-ids c = cutting_done c.args.rest.now.items c.args.span c.args.other.now c.loop-cut.cut-iterator c.loop-cut.rest.items c.add_some-2.new.rest.items c.loop-cut.left
    c.loop-cut.invariant c.in-None.ensures.steps.0 c.in_ok-add_some-2.ensures
