use Rattle.std.proofs.Common.{arith}
use Rattle.yd_state.proofs.TellingLemmas.{telling_then, telling_ends}
use Rattle.yd_state.proofs.less.tell.Goals as goal

pub loop-one-preserved : goal.loop-one-preserved
loop-one-preserved c = telling_then c.args.held.now c.received.ensures.holds c.args.kept.now c.loop-one.kept c.tell_one.new.kept c.pop.new.self.items c.in-Some.one c.loop-one.less.items
    c.in-Some.ensures.items c.loop-one.invariant c.tell_one.ensures.maps c.tell_one.ensures.placed c.tell_one.ensures.names

pub returns-clause-all : goal.returns-clause-all
returns-clause-all c = telling_ends c.args.held.now c.args.kept.now c.loop-one.kept c.requires.ids c.loop-one.less.items
    (omega (arith, c.in_default.ensures.cases.0, c.loop-one.less.ok.0)) c.loop-one.invariant
