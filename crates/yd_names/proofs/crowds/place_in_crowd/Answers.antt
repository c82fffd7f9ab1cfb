use Rattle.std.proofs.Common.{◌∙◌, sym, ap, arith, is_lt}
use Rattle.yd_names.proofs.CrowdsLemmas.{halving_ends, middle_inside, halved_up, halved_under}
use Rattle.yd_names.proofs.crowds.place_in_crowd.Goals as goal

pub bounds-names-crowd : goal.bounds-names-crowd
bounds-names-crowd g c = middle_inside g.S.Sought.cmp g.met.S.Sought.total c.args.names.now c.args.crowd.now (g.S.Sought.stands c.args.sought.now) c.requires c.loop-low.low c.loop-low.high c.loop-low.invariant c.loop-low-test.true

pub loop-low-preserved-then-is_lt : goal.loop-low-preserved-then-is_lt
loop-low-preserved-then-is_lt g c = halved_up g.S.Sought.cmp g.met.S.Sought.total c.args.names.now c.args.crowd.now (g.S.Sought.stands c.args.sought.now) c.requires c.loop-low.low c.loop-low.high c.loop-low.invariant c.loop-low-test.true
    c.index-names-crowd.result c.index-names-crowd.is (ap is_lt (sym c.compare.ensures) ∙ sym c.is_lt.ensures ∙ c.if-is_lt.true)

pub loop-low-preserved : goal.loop-low-preserved
loop-low-preserved g c = halved_under g.S.Sought.cmp g.met.S.Sought.total c.args.names.now c.args.crowd.now (g.S.Sought.stands c.args.sought.now) c.requires c.loop-low.low c.loop-low.high c.loop-low.invariant c.loop-low-test.true
    c.index-names-crowd.result c.index-names-crowd.is (ap is_lt (sym c.compare.ensures) ∙ sym c.is_lt.ensures ∙ c.if-is_lt.false)

pub returns : goal.returns
returns g c = halving_ends g.S.Sought.cmp g.met.S.Sought.total c.args.names.now c.args.crowd.now (g.S.Sought.stands c.args.sought.now) c.loop-low.low c.loop-low.high c.loop-low.invariant (omega (arith, c.loop-low-test.false))
