use Rattle.std.proofs.Common.{length, ap, refl, arith}
use Rattle.yd_agreement.specs.Runs.{lent_runs}
use Rattle.yd_agreement.proofs.CoverLemmas.{covers_all, no_covers, push_cover}
use Rattle.yd_agreement.proofs.sweep.covers_of.Goals as goal

pub loop-next-init : goal.loop-next-init
loop-next-init c = record { within = omega arith; so_far = no_covers (lent_runs c.args.runs.now) (lent_runs c.new-covers.result.items) (ap lent_runs c.new-covers.ensures.items) }

pub loop-next-preserved : goal.loop-next-preserved
loop-next-preserved c = record {
  within = omega (arith, c.loop-next-test.true);
  so_far = push_cover (lent_runs c.args.runs.now) c.loop-next.covers.items c.push.new.self.items c.loop-next.next c.next_cover-cover.result c.loop-next.invariant.so_far
      c.in_ok-push.ensures.items c.next_cover-cover.ensures;
}

pub returns : goal.returns
returns c = covers_all c.args.runs.now (lent_runs c.loop-next.covers.items) c.loop-next.next (length c.args.runs.now) c.loop-next.invariant.so_far c.loop-next.invariant.within
    c.loop-next-test.false refl
