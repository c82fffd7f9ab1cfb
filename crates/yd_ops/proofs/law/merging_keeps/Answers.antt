use Rattle.yd_ops.proofs.MergingLemmas.{merging_keeps}
use Rattle.yd_ops.proofs.law.merging_keeps.Goals as goal

pub returns : goal.returns
returns c = merging_keeps
