use Rattle.std.proofs.Common.{◌≡◌, ◌-◌}
use Rattle.std.proofs.Common.{[]}
use Rattle.yd_v1.specs.Reading.{v1_at, v1_spot}
use Rattle.yd_fields.specs.UpdatePlan.{entries_step}
use Rattle.yd_parts.specs.Plan.{read_by, repeated}
use Rattle.yd_v1.proofs.vector_reading.read_entry_list.Given as goal

abbrev pub invariant-loop : goal.invariant-loop
invariant-loop l =
    read_by v1_at v1_spot (repeated entries_step (l.count - l.counter) l.entries.items) l.reader ≡ read_by v1_at v1_spot (repeated entries_step l.count []) l.fn.reader
