-- What is told when the own state is set.
use Rattle.std.specs.Prelude.{ℕ, suc, List, Option}
use Rattle.yd_ids.specs.declared.id.Client.{Client}
use Rattle.yd_sync.specs.declared.entry.AwareEntry.{AwareEntry}

-- the entry of a client that sets a state behind this clock
abbrev pub next_entry : Client → ℕ → Option (List ℕ) → AwareEntry
next_entry own clock state = record { client = own; clock = suc clock; state = state }
