use Rattle.std.proofs.Common.{◌∙◌, arith}
use Rattle.yd_making.specs.Steps.{steps_value}
use Rattle.yd_undo.specs.Remade.{seen_of}
use Rattle.yd_undo.proofs.RemadeLemmas.{span_next}
use Rattle.yd_undo.proofs.remaking.add_span.Goals as goal

pub loop-left-preserved : goal.loop-left-preserved
loop-left-preserved c = record {
  client = c.loop-left.invariant.client;
  end = omega (arith, c.loop-left.invariant.end, c.in_ok-taken.ensures.bound);
  made = span_next (seen_of c.args.replica.now) c.loop-left.at c.loop-left.left c.in_ok-taken.taken (steps_value c.loop-left.steps) (steps_value c.add_group.new.steps)
      c.loop-left-test.true c.in_ok-taken.ensures.taken c.in_ok-taken.ensures.bound c.in_ok-taken.ensures.added ∙ c.loop-left.invariant.made;
}
