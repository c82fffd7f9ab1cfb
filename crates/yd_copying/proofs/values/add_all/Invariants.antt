use Rattle.std.proofs.Common.{◌≡◌, drop}
use Rattle.yd_any.specs.AnyView.{any_trees, items_trees}
use Rattle.yd_any.specs.Rows.{trees_and}
use Rattle.yd_copying.proofs.values.add_all.Given as goal

-- with the values that are left, all are copied
abbrev pub invariant-loop-value : goal.invariant-loop-value
invariant-loop-value l = trees_and (any_trees l.all) (items_trees (drop l.value-index l.values)) ≡ trees_and (any_trees l.initial.all) (items_trees l.values)
