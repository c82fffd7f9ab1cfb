use Rattle.std.proofs.Common.{◌+◌, ◌*◌, map, take, drop}
use Rattle.yd_any.specs.Tree.{depth, depth_of_trees, depth_of_fields}
use Rattle.yd_any.specs.AnyView.{any_tree, any_trees, any_fields, items_trees, entries_fields}
use Rattle.yd_any.proofs.AnyLists as any
use Rattle.yd_value.specs.View.{shown_tree}
use Rattle.yd_value.proofs.ShownLists as shown
use Rattle.yd_value.proofs.MakingLemmas.{TreesMade, FieldsMade}
use Rattle.yd_value.proofs.of_any.+show.Given as goal

abbrev pub decreases-show : goal.decreases-show
decreases-show l = 3 * depth (any_tree l.value.now)

abbrev pub decreases-show_list : goal.decreases-show_list
decreases-show_list l = 3 * depth_of_trees (any_trees l.items.now) + 2

abbrev pub decreases-show_items : goal.decreases-show_items
decreases-show_items l = 3 * depth_of_trees (items_trees l.items.now) + 1

abbrev pub decreases-show_pairs : goal.decreases-show_pairs
decreases-show_pairs l = 3 * depth_of_fields (any_fields l.entries.now) + 2

abbrev pub decreases-show_entries : goal.decreases-show_entries
decreases-show_entries l = 3 * depth_of_fields (entries_fields l.entries.now) + 1

abbrev pub invariant-show_items-loop-item : goal.invariant-show_items-loop-item
invariant-show_items-loop-item l = TreesMade (map shown_tree l.shown.items) (map any_tree (take l.item-index l.items)) (items_trees l.items) (items_trees (drop l.item-index l.items))

abbrev pub invariant-show_entries-loop-key : goal.invariant-show_entries-loop-key
invariant-show_entries-loop-key l = FieldsMade (map shown.entry_tree l.shown.items) (map any.entry_tree (take l.key-index l.entries)) (entries_fields l.entries) (entries_fields (drop l.key-index l.entries))
