use Rattle.std.proofs.Common.{◌≡◌, drop}
use Rattle.yd_any.specs.Valid.{are_in_range, fields_are_in_range}
use Rattle.yd_any.specs.AnyView.{items_trees, entries_fields}
use Rattle.yd_any.proofs.any_validity.+range.Given as goal

abbrev pub invariant-are_in_range-loop-item : goal.invariant-are_in_range-loop-item
invariant-are_in_range-loop-item l = are_in_range (items_trees l.item-items) ≡ are_in_range (items_trees (drop l.item-index l.item-items))

abbrev pub invariant-pairs_are_in_range-loop-item : goal.invariant-pairs_are_in_range-loop-item
invariant-pairs_are_in_range-loop-item l = fields_are_in_range (entries_fields l.item-items) ≡ fields_are_in_range (entries_fields (drop l.item-index l.item-items))
