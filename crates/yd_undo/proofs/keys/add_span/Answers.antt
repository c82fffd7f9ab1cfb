use Rattle.std.proofs.Common.{◌∙◌, arith}
use Rattle.yd_making.specs.Steps.{steps_value}
use Rattle.yd_undo.specs.Remade.{seen_of}
use Rattle.yd_undo.proofs.KeyLemmas.{key_next}
use Rattle.yd_undo.proofs.keys.add_span.Goals as goal

pub loop-left-preserved : goal.loop-left-preserved
loop-left-preserved c = record {
  client = c.loop-left.invariant.client;
  end = omega (arith, c.loop-left.invariant.end, c.loop-left-test.true);
  made = key_next (seen_of c.args.replica.now) c.args.deleted.now c.loop-left.at c.loop-left.left (steps_value c.loop-left.steps) (steps_value c.add_key.new.steps)
      c.loop-left-test.true c.in_ok-add_key.ensures ∙ c.loop-left.invariant.made;
}
