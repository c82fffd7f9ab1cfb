use Rattle.std.proofs.Common.{◌≡◌, drop}
use Rattle.std.specs.Prelude.{nat_le}
use Rattle.yd_any.specs.Tree.{depth_of_trees, depth_of_fields}
use Rattle.yd_any.specs.JsonView.{items_trees, entries_fields}
use Rattle.yd_any.proofs.json_validity.+depth.Given as goal

abbrev pub invariant-are_within-loop-item : goal.invariant-are_within-loop-item
invariant-are_within-loop-item l = nat_le (depth_of_trees (items_trees l.item-items)) l.most ≡ nat_le (depth_of_trees (items_trees (drop l.item-index l.item-items))) l.most

abbrev pub invariant-fields_are_within-loop-entry : goal.invariant-fields_are_within-loop-entry
invariant-fields_are_within-loop-entry l = nat_le (depth_of_fields (entries_fields l.entry-items)) l.most ≡ nat_le (depth_of_fields (entries_fields (drop l.entry-index l.entry-items))) l.most
