use Rattle.std.proofs.Common.{◌∙◌, ap}
use Rattle.yd_ops.specs.Received.{received_after}
use Rattle.yd_doc.specs.Kept.{received_of}
use Rattle.yd_generating.proofs.passing.pass_written.Goals as goal

pub returns-in-Ok-clause-passed : goal.returns-in-Ok-clause-passed
returns-in-Ok-clause-passed c = c.in-Ok.ensures.received ∙ ap (received_after (received_of c.args.asker.now)) c.in_ok-update.ensures.reply
