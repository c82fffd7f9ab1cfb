use Rattle.std.proofs.Common.{◌∙◌, arith}
use Rattle.yd_num.proofs.GroupLemmas.{groups_more, groups_end, groups_short, groups_long, weighs_more, weight_grows}
use Rattle.yd_num.proofs.groups.groups_of.Goals as goal

pub returns-then-i-bytes : goal.returns-then-i-bytes
returns-then-i-bytes c = c.loop-i.invariant.reads ∙ groups_short c.loop-i.value c.loop-i.weight c.args.most c.loop-i.i c.args.bytes.now c.loop-i-test.true c.if-i-bytes.true

pub returns-then-byte-lt128 : goal.returns-then-byte-lt128
returns-then-byte-lt128 c = (
  c.loop-i.invariant.reads ∙ groups_end c.loop-i.value c.loop-i.weight c.args.most c.loop-i.i c.args.bytes.now c.from.result c.loop-i-test.true (omega arith) c.from.ensures c.if-byte-lt128.true,
  omega arith,
)

pub loop-i-preserved : goal.loop-i-preserved
loop-i-preserved c = record {
  weighs = weighs_more c.loop-i.weight c.loop-i.i c.loop-i.invariant.weighs;
  below = omega (arith, c.loop-i.invariant.below, weight_grows c.from.result c.loop-i.weight (omega arith));
  within = omega arith;
  reads = c.loop-i.invariant.reads ∙ groups_more c.loop-i.value c.loop-i.weight c.args.most c.loop-i.i c.args.bytes.now c.from.result c.loop-i-test.true (omega arith) c.from.ensures c.if-byte-lt128.false;
}

pub returns : goal.returns
returns c = c.loop-i.invariant.reads ∙ groups_long c.loop-i.value c.loop-i.weight c.args.most c.loop-i.i c.args.bytes.now c.loop-i-test.false
