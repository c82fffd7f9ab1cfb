use Rattle.std.proofs.Common.{◌+◌, ◌*◌, drop}
use Rattle.yd_any.specs.AnyView.{any_tree, any_trees, any_fields, items_trees, entries_fields}
use Rattle.yd_any.specs.Tree.{depth, depth_of_trees, depth_of_fields}
use Rattle.yd_parts.proofs.AnyWritingLemmas.{TreesRemain, FieldsRemain}
use Rattle.yd_parts.proofs.any_writing.+writing.Given as goal

abbrev pub decreases-write_value : goal.decreases-write_value
decreases-write_value l = 3 * depth (any_tree l.value.now)

abbrev pub decreases-write_list : goal.decreases-write_list
decreases-write_list l = 3 * depth_of_trees (any_trees l.items.now) + 2

abbrev pub decreases-write_items : goal.decreases-write_items
decreases-write_items l = 3 * depth_of_trees (items_trees l.items.now) + 1

abbrev pub decreases-write_pairs : goal.decreases-write_pairs
decreases-write_pairs l = 3 * depth_of_fields (any_fields l.entries.now) + 2

abbrev pub decreases-write_entries : goal.decreases-write_entries
decreases-write_entries l = 3 * depth_of_fields (entries_fields l.entries.now) + 1

abbrev pub invariant-write_items-loop-item : goal.invariant-write_items-loop-item
invariant-write_items-loop-item l = TreesRemain (items_trees l.items) (items_trees (drop l.item-index l.items)) l.fn.bytes l.bytes

abbrev pub invariant-write_entries-loop-key : goal.invariant-write_entries-loop-key
invariant-write_entries-loop-key l = FieldsRemain (entries_fields l.entries) (entries_fields (drop l.key-index l.entries)) l.fn.bytes l.bytes
