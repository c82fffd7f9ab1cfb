use Rattle.yd_grouping.proofs.GroupedLemmas.{built_grouped}
use Rattle.yd_grouping.proofs.BlockLemmas.{blocks-operations}
use Rattle.yd_grouping.proofs.BuildingLemmas.{blocks_grow}
use Rattle.yd_grouping.proofs.law.blocks_are_built.Goals as goal

pub returns : goal.returns
returns c = record { grow = blocks_grow; operations = blocks-operations; grouped = built_grouped }
