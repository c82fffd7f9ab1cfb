use Rattle.yd_app.proofs.CheckLemmas.{checks_same}
use Rattle.yd_app.proofs.law.checks_converge.Goals as goal

pub returns : goal.returns
returns c = checks_same
