use Rattle.yd_app.proofs.MergeLemmas.{merges_converted}
use Rattle.yd_app.proofs.law.merges_are_converted.Goals as goal

pub returns : goal.returns
returns c = merges_converted
