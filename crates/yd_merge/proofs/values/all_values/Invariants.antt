use Rattle.std.proofs.Common.{◌≡◌, take}
use Rattle.yd_any.specs.AnyView.{any_trees, items_trees}
use Rattle.yd_merge.proofs.values.all_values.Given as goal

-- the values so far are copied
abbrev pub invariant-loop-value : goal.invariant-loop-value
invariant-loop-value l = any_trees l.copy ≡ items_trees (take l.value-index l.values)
