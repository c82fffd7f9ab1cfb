use Rattle.std.proofs.Common.{subst, arith}
use Rattle.yd_honesty.specs.Judging.{AreEnds}
use Rattle.yd_honesty.proofs.EndsLemmas.{ends_more}
use Rattle.yd_honesty.proofs.ends.ends_of.Goals as goal

pub loop-at-preserved : goal.loop-at-preserved
loop-at-preserved c = record {
  inside = omega (arith, c.loop-at.invariant.inside);
  are = ends_more c.args.received.now c.args.ids.now c.loop-at.ends.items _ c.end_of.result
      (subst (λ n. AreEnds c.args.received.now c.args.ids.now c.loop-at.ends.items n) (omega (arith, c.loop-at-test.true)) c.loop-at.invariant.are)
      (omega (arith, c.loop-at.invariant.inside, c.loop-at-test.true)) c.end_of.ensures;
}

pub returns : goal.returns
returns c = subst (λ n. AreEnds c.args.received.now c.args.ids.now c.loop-at.ends.items n) (omega (arith, c.loop-at-test.false)) c.loop-at.invariant.are
