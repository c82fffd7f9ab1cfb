use Rattle.std.proofs.Common.{◌≡◌, ◌++◌, map, drop}
use Rattle.yd_ops.specs.View.{block_value}
use Rattle.yd_agreement.specs.Runs.{lent_runs, runs_of_blocks}
use Rattle.yd_agreement.proofs.spelled.push_update.Given as goal

-- with those of the blocks that are left, the update's are put behind
abbrev pub invariant-loop-block : goal.invariant-loop-block
invariant-loop-block l = lent_runs l.runs.items ++ runs_of_blocks (map block_value (drop l.block-index l.update.blocks))
    ≡ lent_runs l.initial.runs.items ++ runs_of_blocks (map block_value l.update.blocks)
