use Rattle.std.proofs.Common.{◌≡◌, ◌++◌, map}
use Rattle.yd_any.proofs.JsonLists.{entry_tree}
use Rattle.yd_any.proofs.JsonMapLemmas.{map_entry}
use Rattle.yd_any.proofs.conversion.in_order.Given as goal

abbrev pub invariant-loop-key : goal.invariant-loop-key
invariant-loop-key l = map entry_tree l.items.items ++ map map_entry l.key-iterator ≡ map map_entry l.fn.found.entries
