use Rattle.std.proofs.Common.{◌≡◌, drop}
use Rattle.yd_any.specs.Carried.{are_carried, fields_are_carried}
use Rattle.yd_any.specs.AnyView.{items_trees, entries_fields}
use Rattle.yd_any.proofs.carried.+carried.Given as goal

abbrev pub invariant-are_carried-loop-item : goal.invariant-are_carried-loop-item
invariant-are_carried-loop-item l = are_carried (items_trees l.item-items) ≡ are_carried (items_trees (drop l.item-index l.item-items))

abbrev pub invariant-pairs_are_carried-loop-item : goal.invariant-pairs_are_carried-loop-item
invariant-pairs_are_carried-loop-item l = fields_are_carried (entries_fields l.item-items) ≡ fields_are_carried (entries_fields (drop l.item-index l.item-items))
