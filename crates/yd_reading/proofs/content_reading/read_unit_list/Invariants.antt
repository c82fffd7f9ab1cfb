use Rattle.std.proofs.Common.{◌≡◌, ◌-◌, [], map}
use Rattle.yd_ops.specs.View.{unit_value}
use Rattle.yd_parts.specs.Plan.{read_by, repeated}
use Rattle.yd_fields.specs.StructPlan.{unit_step}
use Rattle.yd_reading.proofs.content_reading.read_unit_list.Given as goal

abbrev pub invariant-loop : goal.invariant-loop
invariant-loop g l =
    let at = g.R.FieldReader.field_at in
    let spot_of = g.R.FieldReader.spot_of in
    read_by at spot_of (repeated unit_step (l.count - l.counter) (map unit_value l.units)) l.reader ≡ read_by at spot_of (repeated unit_step l.count []) l.fn.reader
