use Rattle.std.proofs.Common.{◌∙◌}
use Rattle.yd_doc.specs.Kept.{received_of}
use Rattle.yd_generating.proofs.TurnLemmas.{passed_other, passed_tenth}
use Rattle.yd_generating.proofs.turning.hand_on.Goals as goal

pub returns-then-step-ne0-clause-passed : goal.returns-then-step-ne0-clause-passed
returns-then-step-ne0-clause-passed c = passed_other c.args.step (received_of c.args.own.now) (received_of c.args.next.now) c.if-step-ne0.true

pub returns-clause-passed : goal.returns-clause-passed
returns-clause-passed c = c.in_ok-pass_written.ensures.passed ∙ passed_tenth c.args.step (received_of c.args.own.now) (received_of c.args.next.now) c.if-step-ne0.false
