use Rattle.std.proofs.Common.{◌≡◌, ◌++◌, map, drop}
use Rattle.yd_ops.specs.View.{update_value}
use Rattle.yd_merge.specs.Named.{all_named}
use Rattle.yd_merge.proofs.naming.named_by.Given as goal

-- with those of the updates that are left, all are noted
abbrev pub invariant-loop-update : goal.invariant-loop-update
invariant-loop-update l = l.spans.items ++ all_named (map update_value (drop l.update-index l.updates)) ≡ all_named (map update_value l.updates)
