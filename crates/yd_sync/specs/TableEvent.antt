-- All that can happen to a table, and the entries that came so or were answered.
use Rattle.std.specs.Prelude.{ℕ, List, [], ◌∷◌, ◌++◌, Option}
use Rattle.yd_ids.specs.declared.id.Client.{Client}
use Rattle.yd_sync.specs.declared.entry.AwareEntry.{AwareEntry}
use Rattle.yd_sync.specs.Table.{Row, after_entries, ended_of, is_from, is_of, is_old, without_states}

-- entries come at a moment from a source; old states end; a client's state is dropped; those from a source end
pub data TableEvent : Type 0 where
  came : ℕ → ℕ → List AwareEntry → TableEvent
  aged : ℕ → TableEvent
  dropped : ℕ → TableEvent
  left : ℕ → TableEvent

-- the table after it
abbrev pub table_after : Option Client → TableEvent → List Row → List Row
table_after own (came now source es) table = after_entries own now source es table
table_after own (aged now) table = without_states (is_old own now) table
table_after own (dropped client) table = without_states (is_of client) table
table_after own (left source) table = without_states (is_from source) table

-- the entries that came, or that are answered
abbrev pub entries_of : Option Client → TableEvent → List Row → List AwareEntry
entries_of own (came now source es) table = es
entries_of own (aged now) table = ended_of (is_old own now) table
entries_of own (dropped client) table = ended_of (is_of client) table
entries_of own (left source) table = ended_of (is_from source) table

-- the table after all of these, one after another
abbrev pub tables_after : Option Client → List TableEvent → List Row → List Row
tables_after own [] table = table
tables_after own (event ∷ events) table = tables_after own events (table_after own event table)

-- all entries of these
abbrev pub all_entries : Option Client → List TableEvent → List Row → List AwareEntry
all_entries own [] table = []
all_entries own (event ∷ events) table = entries_of own event table ++ all_entries own events (table_after own event table)
