use Rattle.std.proofs.Common.{◌≡◌, ◌-◌, []}
use Rattle.yd_parts.specs.Plan.{read_by, repeated}
use Rattle.yd_v1.specs.Reading.{v1_at, v1_spot}
use Rattle.yd_sync.specs.Entry.{aware_step}
use Rattle.yd_sync.proofs.entry_reading.read_each.Given as goal

abbrev pub invariant-loop : goal.invariant-loop
invariant-loop l =
    read_by v1_at v1_spot (repeated aware_step (l.count - l.counter) l.entries) l.reader ≡ read_by v1_at v1_spot (repeated aware_step l.count []) l.fn.reader
