use Rattle.std.proofs.Common.{◌≡◌, ◌+◌, ◌*◌, ◌≤◌, drop, length}
use Rattle.yd_any.specs.JsonView.{json_tree, json_trees, json_fields, items_trees, entries_fields}
use Rattle.yd_any.specs.Tree.{depth, depth_of_trees, depth_of_fields}
use Rattle.yd_any.specs.Same.{same_trees, same_fields}
use Rattle.yd_any.proofs.same_json.+same.Given as goal

abbrev pub decreases-is_same : goal.decreases-is_same
decreases-is_same l = 3 * depth (json_tree l.a.now)

abbrev pub decreases-is_list : goal.decreases-is_list
decreases-is_list l = 3 * depth_of_trees (json_trees l.items.now) + 2

abbrev pub decreases-are_same : goal.decreases-are_same
decreases-are_same l = 3 * depth_of_trees (items_trees l.items.now) + 1

abbrev pub decreases-is_fields : goal.decreases-is_fields
decreases-is_fields l = 3 * depth_of_fields (json_fields l.entries.now) + 2

abbrev pub decreases-fields_are_same : goal.decreases-fields_are_same
decreases-fields_are_same l = 3 * depth_of_fields (entries_fields l.entries.now) + 1

-- the values so far are the same
abbrev pub invariant-are_same-loop-i : goal.invariant-are_same-loop-i
invariant-are_same-loop-i l = record {
  within : l.i ≤ length l.others;
  same : same_trees (items_trees l.items) (items_trees l.others) ≡ same_trees (items_trees (drop l.i l.items)) (items_trees (drop l.i l.others));
}

abbrev pub invariant-fields_are_same-loop-i : goal.invariant-fields_are_same-loop-i
invariant-fields_are_same-loop-i l = record {
  within : l.i ≤ length l.others;
  same : same_fields (entries_fields l.entries) (entries_fields l.others) ≡ same_fields (entries_fields (drop l.i l.entries)) (entries_fields (drop l.i l.others));
}
