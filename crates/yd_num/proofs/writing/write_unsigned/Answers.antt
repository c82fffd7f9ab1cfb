use Rattle.std.proofs.Common.{◌∙◌}
use Rattle.yd_num.proofs.WritingLemmas.{so_far-init, so_far-more, so_far-last}
use Rattle.yd_num.proofs.writing.write_unsigned.Goals as goal

pub loop-rest-init : goal.loop-rest-init
loop-rest-init c = so_far-init c.args.bytes.now.items c.args.v c.requires

pub loop-rest-preserved : goal.loop-rest-preserved
loop-rest-preserved c = rw c.in_ok-push.ensures.items (so_far-more c.args.bytes.now.items c.loop-rest.bytes.items c.args.v c.loop-rest.rest c.loop-rest-test.true c.loop-rest.invariant)

pub returns-clause-written : goal.returns-clause-written
returns-clause-written c = c.in_ok-push-2.ensures.items ∙ so_far-last c.args.bytes.now.items c.loop-rest.bytes.items c.args.v c.loop-rest.rest c.loop-rest-test.false c.loop-rest.invariant
