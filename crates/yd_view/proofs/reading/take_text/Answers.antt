use Rattle.yd_view.proofs.TextLemmas.{takes_more}
use Rattle.yd_view.proofs.reading.take_text.Goals as goal

pub loop-i-preserved : goal.loop-i-preserved
loop-i-preserved c = takes_more c.args.halves.now c.loop-i.halves c.take.new.self c.args.id c.args.units.now c.args.offset c.args.len c.loop-i.i c.unit-unit.result
    c.requires.within c.loop-i-test.true c.unit-unit.ensures c.loop-i.invariant c.in_ok-take.ensures.takes
