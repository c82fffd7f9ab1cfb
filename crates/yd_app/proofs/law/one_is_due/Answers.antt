use Rattle.yd_app.proofs.DueLemmas.{one_is_due}
use Rattle.yd_app.proofs.law.one_is_due.Goals as goal

pub returns : goal.returns
returns c = one_is_due
