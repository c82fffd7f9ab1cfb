-- Which states end, and their ending one by one.
use Rattle.std.specs.Prelude.{Bool, List, [], ◌∷◌}
use Rattle.yd_sync.specs.declared.entry.AwareEntry.{AwareEntry}
use Rattle.yd_sync.specs.Table.{Row, is_from, is_old}
use Rattle.yd_aware.specs.declared.ending.Ending.{Ending}
use Rattle.yd_aware.specs.declared.ending.Ending.TheVariants.{From, Old}
use Rattle.yd_aware.specs.Rows.{ended_at}

-- the state of a row ends
abbrev pub ends : Ending → Row → Bool
ends (Old own now) row = is_old own now row
ends (From source) row = is_from source row

-- the rows without the states of these clients
abbrev pub ended_each : List AwareEntry → List Row → List Row
ended_each [] rows = rows
ended_each (e ∷ es) rows = ended_each es (ended_at e.client.0 rows)
