use Rattle.std.proofs.Common.{◌≡◌, ◌+◌, ◌*◌, length}
use Rattle.std.specs.Vec.Iter.{into_iter_items, into_iter_len}
use Rattle.yd_doc.specs.Kept.{own_document}
use Rattle.yd_shown.specs.Shown.{fields_under, value_within}
use Rattle.yd_state.specs.Lent.{units_left}
use Rattle.yd_value.specs.View.{shown_fields}
use Rattle.yd_modes.specs.Gathering.{gathered, IsSettled}
use Rattle.yd_modes.specs.Listed.{listed}
use Rattle.yd_modes.specs.Roles.{Delta, joined_fields, live_lent}
use Rattle.yd_modes.proofs.nesting.+show.Given as goal

-- a type holds lists, a list units, and a unit a type, which is one deeper
abbrev pub decreases-show_type : goal.decreases-show_type
decreases-show_type l = 6 * l.most + 5

abbrev pub decreases-show_element : goal.decreases-show_element
decreases-show_element l = 6 * l.most + 4

abbrev pub decreases-show_delta : goal.decreases-show_delta
decreases-show_delta l = 6 * l.most + 3

abbrev pub decreases-gather : goal.decreases-gather
decreases-gather l = 6 * l.most + 2

abbrev pub decreases-take_run : goal.decreases-take_run
decreases-take_run l = 6 * l.most + 1

abbrev pub decreases-show_list : goal.decreases-show_list
decreases-show_list l = 6 * l.most + 3

abbrev pub decreases-gather_values : goal.decreases-gather_values
decreases-gather_values l = 6 * l.most + 2

abbrev pub decreases-list_run : goal.decreases-list_run
decreases-list_run l = 6 * l.most + 1

abbrev pub decreases-show_map : goal.decreases-show_map
decreases-show_map l = 6 * l.most + 4

abbrev pub decreases-show_keys : goal.decreases-show_keys
decreases-show_keys l = 6 * l.most + 3

abbrev pub decreases-show_under : goal.decreases-show_under
decreases-show_under l = 6 * l.most + 2

abbrev pub decreases-show_unit : goal.decreases-show_unit
decreases-show_unit l = 6 * l.most + 1

abbrev pub decreases-show_nested : goal.decreases-show_nested
decreases-show_nested l = 6 * l.most

-- the pieces of what came and of what is left are those of the list
abbrev pub invariant-gather-loop-piece : goal.invariant-gather-loop-piece
invariant-gather-loop-piece l = record {
  pieces : gathered Delta (value_within l.most (own_document l.replica)) l.gathering (live_lent (units_left l.view))
      ≡ gathered Delta (value_within l.most (own_document l.replica)) l.initial.gathering (live_lent (units_left l.initial.view));
  settled : IsSettled l.gathering;
}

abbrev pub decreases-gather-loop-piece : goal.decreases-gather-loop-piece
decreases-gather-loop-piece l = length (units_left l.view)

-- the values of what came and of what is left are those of the list
abbrev pub invariant-gather_values-loop-piece : goal.invariant-gather_values-loop-piece
invariant-gather_values-loop-piece l = listed (value_within l.most (own_document l.replica)) l.listed (live_lent (units_left l.view))
    ≡ listed (value_within l.most (own_document l.replica)) l.initial.listed (live_lent (units_left l.initial.view))

abbrev pub decreases-gather_values-loop-piece : goal.decreases-gather_values-loop-piece
decreases-gather_values-loop-piece l = length (units_left l.view)

-- the fields so far and those of the keys that are left are those of all keys
abbrev pub invariant-show_keys-loop-key : goal.invariant-show_keys-loop-key
invariant-show_keys-loop-key l = record {
  shown : joined_fields (shown_fields l.fields) (fields_under (value_within l.most (own_document l.replica)) (own_document l.replica) l.parent (into_iter_items l.key-iterator))
      ≡ fields_under (value_within l.most (own_document l.replica)) (own_document l.replica) l.parent l.fn.keys.items;
  count : into_iter_len l.key-iterator ≡ length (into_iter_items l.key-iterator);
}
