use Rattle.std.proofs.Common.{arith}
use Rattle.yd_ops.specs.Value.{len_of}
use Rattle.yd_ops.specs.View.{content_value}
use Rattle.yd_agreement.proofs.DifferLemmas.{none_other, one_other, same_so_far, shorter}
use Rattle.yd_agreement.proofs.differing.first_other.Goals as goal

pub loop-k-preserved : goal.loop-k-preserved
loop-k-preserved c = same_so_far (content_value c.args.a.now) c.args.from (content_value c.args.b.now) c.loop-k.k c.is_same_unit.result c.is_same_unit.ensures
    c.if-not-is_same_unit.false c.loop-k.invariant

pub returns-then-not-is_same_unit : goal.returns-then-not-is_same_unit
returns-then-not-is_same_unit c = one_other (content_value c.args.a.now) c.args.from (content_value c.args.b.now) c.loop-k.k c.is_same_unit.result
    (omega (arith, c.loop-k-test.true, c.min-count.ensures, c.len-2.ensures)) (omega (arith, c.loop-k-test.true, c.min-count.ensures, c.len-3.ensures)) c.is_same_unit.ensures
    c.if-not-is_same_unit.true c.loop-k.invariant

pub returns : goal.returns
returns c = none_other (content_value c.args.a.now) c.args.from (content_value c.args.b.now) c.loop-k.k
    (shorter (len_of (content_value c.args.b.now)) (len_of (content_value c.args.a.now)) c.args.from c.loop-k.k c.min-count.result c.len-2.result c.len-3.result c.len-2.ensures
    c.len-3.ensures c.min-count.ensures c.loop-k-test.false) c.loop-k.invariant
