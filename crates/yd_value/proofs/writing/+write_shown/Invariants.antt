use Rattle.std.proofs.Common.{drop}
use Rattle.yd_value.specs.Texts.{text_of_trees, text_of_fields}
use Rattle.yd_value.specs.View.{items_trees, entries_fields}
use Rattle.yd_value.proofs.WritingLemmas.{Leaves}
use Rattle.yd_value.proofs.writing.+write_shown.Given as goal

abbrev pub invariant-write_list-loop-item : goal.invariant-write_list-loop-item
invariant-write_list-loop-item l = Leaves l.initial.out l.out (text_of_trees l.initial.after (items_trees l.item-items)) (text_of_trees l.after (items_trees (drop l.item-index l.item-items)))

abbrev pub invariant-write_fields-loop-entry : goal.invariant-write_fields-loop-entry
invariant-write_fields-loop-entry l = Leaves l.initial.out l.out (text_of_fields l.initial.after (entries_fields l.entry-items)) (text_of_fields l.after (entries_fields (drop l.entry-index l.entry-items)))
