use Rattle.std.proofs.Common.{◌≡◌, map, take}
use Rattle.yd_any.specs.AnyView.{any_tree}
use Rattle.yd_any.proofs.AnyLists.{entry_tree}
use Rattle.yd_any.proofs.any_value.+copy.Given as goal

abbrev pub invariant-copy_list-loop-item : goal.invariant-copy_list-loop-item
invariant-copy_list-loop-item l = map any_tree l.copies.items ≡ map any_tree (take l.item-index l.item-items)

abbrev pub invariant-copy_pairs-loop-entry : goal.invariant-copy_pairs-loop-entry
invariant-copy_pairs-loop-entry l = map entry_tree l.copies.items ≡ map entry_tree (take l.entry-index l.entry-items)
