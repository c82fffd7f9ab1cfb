use Rattle.std.proofs.Common.{◌∙◌}
use Rattle.yd_generating.proofs.passing.written_reply.Goals as goal

pub returns-in-Ok-clause-reply : goal.returns-in-Ok-clause-reply
returns-in-Ok-clause-reply c = c.in-Ok.ensures.same ∙ c.in_ok-update.ensures.reply
