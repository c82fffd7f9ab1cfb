use Rattle.std.proofs.Common.{◌≡◌, ◌++◌, map, drop}
use Rattle.yd_ops.specs.View.{struct_value}
use Rattle.yd_agreement.specs.Runs.{lent_runs, runs_of_structs}
use Rattle.yd_agreement.proofs.spelled.push_block.Given as goal

-- with those of the structs that are left, the block's are put behind
abbrev pub invariant-loop-next : goal.invariant-loop-next
invariant-loop-next l = lent_runs l.runs.items ++ runs_of_structs (map struct_value (drop l.next-index l.block.structs))
    ≡ lent_runs l.initial.runs.items ++ runs_of_structs (map struct_value l.block.structs)
