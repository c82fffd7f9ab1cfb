use Rattle.std.proofs.Common.{drop}
use Rattle.yd_any.specs.AnyView.{items_trees, entries_fields}
use Rattle.yd_any.specs.Printed.{tokens_of_trees, tokens_of_fields}
use Rattle.yd_any.proofs.WritingLemmas.{Leaves}
use Rattle.yd_any.proofs.writing.+write_any.Given as goal

abbrev pub invariant-write_any_list-loop-item : goal.invariant-write_any_list-loop-item
invariant-write_any_list-loop-item l = Leaves l.initial.out l.out (tokens_of_trees (items_trees l.item-items)) (tokens_of_trees (items_trees (drop l.item-index l.item-items)))

abbrev pub invariant-write_pairs-loop-entry : goal.invariant-write_pairs-loop-entry
invariant-write_pairs-loop-entry l = Leaves l.initial.out l.out (tokens_of_fields (entries_fields l.entry-items)) (tokens_of_fields (entries_fields (drop l.entry-index l.entry-items)))
