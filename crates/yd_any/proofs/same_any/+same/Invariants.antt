use Rattle.std.proofs.Common.{◌≡◌, ◌+◌, ◌*◌, ◌≤◌, drop, length}
use Rattle.yd_any.specs.AnyView.{any_tree, any_trees, any_fields, items_trees, entries_fields}
use Rattle.yd_any.specs.Tree.{depth, depth_of_trees, depth_of_fields}
use Rattle.yd_any.specs.Same.{same_trees, same_fields}
use Rattle.yd_any.proofs.same_any.+same.Given as goal

abbrev pub decreases-is_same : goal.decreases-is_same
decreases-is_same l = 3 * depth (any_tree l.a.now)

abbrev pub decreases-is_list : goal.decreases-is_list
decreases-is_list l = 3 * depth_of_trees (any_trees l.items.now) + 2

abbrev pub decreases-are_same : goal.decreases-are_same
decreases-are_same l = 3 * depth_of_trees (items_trees l.items.now) + 1

abbrev pub decreases-is_pairs : goal.decreases-is_pairs
decreases-is_pairs l = 3 * depth_of_fields (any_fields l.entries.now) + 2

abbrev pub decreases-pairs_are_same : goal.decreases-pairs_are_same
decreases-pairs_are_same l = 3 * depth_of_fields (entries_fields l.entries.now) + 1

-- the values so far are the same
abbrev pub invariant-are_same-loop-i : goal.invariant-are_same-loop-i
invariant-are_same-loop-i l = record {
  within : l.i ≤ length l.others;
  same : same_trees (items_trees l.items) (items_trees l.others) ≡ same_trees (items_trees (drop l.i l.items)) (items_trees (drop l.i l.others));
}

abbrev pub invariant-pairs_are_same-loop-i : goal.invariant-pairs_are_same-loop-i
invariant-pairs_are_same-loop-i l = record {
  within : l.i ≤ length l.others;
  same : same_fields (entries_fields l.entries) (entries_fields l.others) ≡ same_fields (entries_fields (drop l.i l.entries)) (entries_fields (drop l.i l.others));
}
