use Rattle.std.proofs.Common.{◌≡◌, ◌+◌, ◌-◌, ◌*◌}
use Rattle.yd_any.specs.AnyView.{any_trees, any_fields}
use Rattle.yd_parts.specs.AnyPlan.{any_plan, inner_plan, field_step, list_plan, pairs_plan, tree_step}
use Rattle.yd_parts.specs.Part.{part_at, last_spot}
use Rattle.yd_parts.specs.Plan.{read_by, repeated}
use Rattle.yd_parts.proofs.any_reading.+reading.Given as goal

abbrev pub decreases-read_within : goal.decreases-read_within
decreases-read_within l = 4 * l.most + 2

abbrev pub decreases-read_tagged : goal.decreases-read_tagged
decreases-read_tagged l = 4 * l.most + 1

abbrev pub decreases-read_list : goal.decreases-read_list
decreases-read_list l = 4 * l.most

abbrev pub decreases-read_pairs : goal.decreases-read_pairs
decreases-read_pairs l = 4 * l.most

abbrev pub decreases-read_item : goal.decreases-read_item
decreases-read_item l = 4 * l.most + 3

abbrev pub decreases-read_entry : goal.decreases-read_entry
decreases-read_entry l = 4 * l.most + 3

abbrev pub invariant-read_list-loop : goal.invariant-read_list-loop
invariant-read_list-loop l =
    read_by part_at last_spot (repeated (tree_step (any_plan (l.most - 1))) (l.count - l.counter) (any_trees l.items)) l.parts
    ≡ read_by part_at last_spot (list_plan (inner_plan l.most) l.fn.spot) l.fn.parts

abbrev pub invariant-read_pairs-loop : goal.invariant-read_pairs-loop
invariant-read_pairs-loop l =
    read_by part_at last_spot (repeated (field_step (any_plan (l.most - 1))) (l.count - l.counter) (any_fields l.entries)) l.parts
    ≡ read_by part_at last_spot (pairs_plan (inner_plan l.most) l.fn.spot) l.fn.parts
