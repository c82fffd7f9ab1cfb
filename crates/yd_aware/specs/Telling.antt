-- The entry of a client, as it is told.
use Rattle.yd_ids.specs.declared.id.Client.{Client}
use Rattle.yd_sync.specs.declared.entry.AwareEntry.{AwareEntry}
use Rattle.yd_sync.specs.Standing.{Standing}

-- the entry of a client with a clock and a state
abbrev pub entry_of_client : Client → Standing → AwareEntry
entry_of_client client standing = record { client = client; clock = standing.clock; state = standing.state }
