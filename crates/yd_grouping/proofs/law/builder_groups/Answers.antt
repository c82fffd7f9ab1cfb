use Rattle.yd_grouping.proofs.BuilderLemmas.{builder_groups}
use Rattle.yd_grouping.proofs.law.builder_groups.Goals as goal

pub returns : goal.returns
returns c = builder_groups
