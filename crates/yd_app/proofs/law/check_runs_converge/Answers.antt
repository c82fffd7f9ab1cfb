use Rattle.yd_app.proofs.CheckLemmas.{check_runs_same}
use Rattle.yd_app.proofs.law.check_runs_converge.Goals as goal

pub returns : goal.returns
returns c = check_runs_same
