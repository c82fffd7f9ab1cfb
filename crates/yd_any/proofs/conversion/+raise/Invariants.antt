use Rattle.std.proofs.Common.{◌≡◌, map, take}
use Rattle.yd_any.specs.AnyView.{any_tree}
use Rattle.yd_any.specs.JsonView.{json_tree}
use Rattle.yd_any.proofs.AnyLists as any
use Rattle.yd_any.proofs.JsonLists as json
use Rattle.yd_any.proofs.conversion.+raise.Given as goal

abbrev pub invariant-raise_list-loop-item : goal.invariant-raise_list-loop-item
invariant-raise_list-loop-item l = map any_tree l.raised.items ≡ map json_tree (take l.item-index l.item-items)

abbrev pub invariant-raise_fields-loop-entry : goal.invariant-raise_fields-loop-entry
invariant-raise_fields-loop-entry l = map any.entry_tree l.raised.items ≡ map json.entry_tree (take l.entry-index l.entry-items)
