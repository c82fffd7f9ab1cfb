use Rattle.std.proofs.Common.{◌≡◌, ◌-◌}
use Rattle.yd_reading.specs.ReadView.{blocks_value, no_blocks}
use Rattle.yd_fields.specs.UpdatePlan.{blocks_step}
use Rattle.yd_parts.specs.Plan.{read_by, repeated}
use Rattle.yd_reading.proofs.block_reading.read_blocks.Given as goal

abbrev pub invariant-loop : goal.invariant-loop
invariant-loop g l =
    let at = g.R.FieldReader.field_at in
    let spot_of = g.R.FieldReader.spot_of in
    read_by at spot_of (repeated blocks_step (l.count - l.counter) (blocks_value l.read)) l.reader ≡ read_by at spot_of (repeated blocks_step l.count (no_blocks l.fn.most)) l.fn.reader
