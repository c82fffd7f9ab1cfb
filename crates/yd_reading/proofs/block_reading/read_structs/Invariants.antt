use Rattle.std.proofs.Common.{◌≡◌, ◌-◌}
use Rattle.yd_reading.specs.ReadView.{structs_value, no_structs}
use Rattle.yd_fields.specs.UpdatePlan.{structs_step}
use Rattle.yd_parts.specs.Plan.{read_by, repeated}
use Rattle.yd_reading.proofs.block_reading.read_structs.Given as goal

abbrev pub invariant-loop : goal.invariant-loop
invariant-loop g l =
    let at = g.R.FieldReader.field_at in
    let spot_of = g.R.FieldReader.spot_of in
    read_by at spot_of (repeated (structs_step l.fn.id.client) (l.count - l.counter) (structs_value l.read)) l.reader ≡ read_by at spot_of (repeated (structs_step l.fn.id.client) l.count (no_structs l.fn.id.clock)) l.fn.reader
