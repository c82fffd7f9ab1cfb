use Rattle.std.proofs.Common.{◌-◌, refl}
use Rattle.yd_ops.specs.Operation.{later_id}
use Rattle.yd_ops.specs.View.{run_value}
use Rattle.yd_agreement.specs.Differing.{content_of}
use Rattle.yd_agreement.proofs.DifferLemmas.{begins_by, content_none, content_some, two_clients}
use Rattle.yd_agreement.proofs.differing.differ_in_content.Goals as goal

pub returns-then-run-next : goal.returns-then-run-next
returns-then-run-next c = two_clients content_of (run_value c.args.run.now) (run_value c.args.next.now) c.if-run-next.true

pub returns-in-None : goal.returns-in-None
returns-in-None c = content_none (run_value c.args.run.now) (run_value c.args.next.now) c.if-run-next.false (begins_by c.args.run.now.id c.args.next.now.id c.requires.order c.if-run-next.false)
    (c.args.next.now.id.clock - c.args.run.now.id.clock) refl c.in-None.ensures

pub returns-in-Some : goal.returns-in-Some
returns-in-Some c = content_some (run_value c.args.run.now) (run_value c.args.next.now) c.if-run-next.false (begins_by c.args.run.now.id c.args.next.now.id c.requires.order c.if-run-next.false)
    (c.args.next.now.id.clock - c.args.run.now.id.clock) refl c.in-Some.k (later_id c.args.next.now.id c.in-Some.k) c.in-Some.ensures refl
