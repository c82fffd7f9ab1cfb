use Rattle.std.proofs.Common.{◌≡◌, ◌++◌, drop}
use Rattle.yd_sync.specs.Table.{AreRows, after_entries, taken_of}
use Rattle.yd_aware.specs.Undoing.{restored}
use Rattle.yd_aware.proofs.taking.take_all.Given as goal

abbrev pub invariant-loop-entry : goal.invariant-loop-entry
invariant-loop-entry l = record {
  ascend : AreRows l.rows.entries;
  after : after_entries l.own l.arrival.moment l.arrival.source (drop l.entry-index l.entries) l.rows.entries
      ≡ after_entries l.own l.arrival.moment l.arrival.source l.entries l.fn.rows.entries;
  taken : l.taken ++ taken_of l.own l.arrival.moment l.arrival.source (drop l.entry-index l.entries) l.rows.entries
      ≡ taken_of l.own l.arrival.moment l.arrival.source l.entries l.fn.rows.entries;
  kept : restored l.changes.items l.rows.entries ≡ l.fn.rows.entries;
}
