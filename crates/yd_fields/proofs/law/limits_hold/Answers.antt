use Rattle.yd_fields.proofs.LimitLemmas.{update_limited}
use Rattle.yd_fields.proofs.law.limits_hold.Goals as goal

pub returns : goal.returns
returns c = update_limited
