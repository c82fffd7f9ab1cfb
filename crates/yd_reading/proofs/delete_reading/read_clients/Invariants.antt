use Rattle.std.proofs.Common.{◌≡◌, ◌-◌}
use Rattle.std.proofs.Common.{[]}
use Rattle.yd_fields.specs.UpdatePlan.{clients_step}
use Rattle.yd_parts.specs.Plan.{read_by, repeated}
use Rattle.yd_reading.proofs.delete_reading.read_clients.Given as goal

abbrev pub invariant-loop : goal.invariant-loop
invariant-loop g l =
    let at = g.R.FieldReader.field_at in
    let spot_of = g.R.FieldReader.spot_of in
    read_by at spot_of (repeated clients_step (l.count - l.counter) l.read.spans.items) l.reader ≡ read_by at spot_of (repeated clients_step l.count []) l.fn.reader
