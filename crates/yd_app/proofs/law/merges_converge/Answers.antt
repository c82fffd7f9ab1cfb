use Rattle.yd_app.proofs.MergeLemmas.{merges_same}
use Rattle.yd_app.proofs.law.merges_converge.Goals as goal

pub returns : goal.returns
returns c = merges_same
