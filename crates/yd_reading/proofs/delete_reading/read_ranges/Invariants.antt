use Rattle.std.proofs.Common.{◌≡◌, ◌-◌, ◌<◌, ◌^◌}
use Rattle.yd_reading.specs.RangesView.{ranges_value}
use Rattle.yd_fields.specs.UpdatePlan.{ranges_step}
use Rattle.yd_parts.specs.Plan.{read_by, repeated}
use Rattle.yd_reading.proofs.delete_reading.read_ranges.Given as goal

abbrev pub invariant-loop : goal.invariant-loop
invariant-loop g l =
    let at = g.R.FieldReader.field_at in
    let spot_of = g.R.FieldReader.spot_of in
    record {
      same : read_by at spot_of (repeated (ranges_step l.fn.client) (l.count - l.counter) (ranges_value l.read)) l.reader ≡ read_by at spot_of (repeated (ranges_step l.fn.client) l.count (ranges_value l.fn.read)) l.fn.reader;
      in_range : l.read.end < 2 ^ 53;
    }
