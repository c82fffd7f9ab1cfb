use Rattle.yd_sync.proofs.EntryLemmas.{entries_read}
use Rattle.yd_sync.proofs.entry_reading.read_counted.Goals as goal

pub returns-clause-valid : goal.returns-clause-valid
returns-clause-valid c = entries_read c.in_ok-count.count _ _ _ c.in_ok-entries.ensures
