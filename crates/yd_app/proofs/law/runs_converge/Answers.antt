use Rattle.yd_app.proofs.LawLemmas.{runs_same}
use Rattle.yd_app.proofs.law.runs_converge.Goals as goal

pub returns : goal.returns
returns c = runs_same
