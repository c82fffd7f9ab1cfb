use Rattle.yd_app.proofs.MergeLemmas.{merge_runs_same}
use Rattle.yd_app.proofs.law.merge_runs_converge.Goals as goal

pub returns : goal.returns
returns c = merge_runs_same
