use Rattle.std.proofs.Common.{◌≡◌, map, take}
use Rattle.yd_any.specs.JsonView.{json_tree}
use Rattle.yd_any.proofs.JsonLists.{entry_tree}
use Rattle.yd_any.proofs.json_value.+copy.Given as goal

abbrev pub invariant-copy_list-loop-item : goal.invariant-copy_list-loop-item
invariant-copy_list-loop-item l = map json_tree l.copies.items ≡ map json_tree (take l.item-index l.item-items)

abbrev pub invariant-copy_fields-loop-entry : goal.invariant-copy_fields-loop-entry
invariant-copy_fields-loop-entry l = map entry_tree l.copies.items ≡ map entry_tree (take l.entry-index l.entry-items)
