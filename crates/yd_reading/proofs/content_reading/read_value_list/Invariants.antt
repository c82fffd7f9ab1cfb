use Rattle.std.proofs.Common.{◌≡◌, ◌-◌}
use Rattle.yd_any.specs.Tree.{no_trees}
use Rattle.yd_any.specs.AnyView.{any_trees}
use Rattle.yd_parts.specs.Plan.{read_by, repeated}
use Rattle.yd_fields.specs.StructPlan.{value_step}
use Rattle.yd_reading.proofs.content_reading.read_value_list.Given as goal

abbrev pub invariant-loop : goal.invariant-loop
invariant-loop g l =
    let at = g.R.FieldReader.field_at in
    let spot_of = g.R.FieldReader.spot_of in
    read_by at spot_of (repeated value_step (l.count - l.counter) (any_trees l.values)) l.reader ≡ read_by at spot_of (repeated value_step l.count no_trees) l.fn.reader
