-- The units of runs in an arena as rows: each with the left and the right that its run gives (own).
use Rattle.std.specs.Prelude.{ℕ, zero, suc, List, [], ◌∷◌, Option, Some, flat_map}
use Rattle.yd_ids.specs.declared.id.Client.{Client}
use Rattle.yd_ids.specs.declared.id.Id.{Id}
use Rattle.yd_origins.specs.Table.{OriginTable}
use Rattle.yd_scan.specs.declared.stretch.Stretch.{Stretch}
use Rattle.yd_scan.specs.Stretches.{stretch_at}
use Rattle.yd_arena.specs.Arena.{Placed, runs_of, places_in}

-- so many units of a client from a clock on: the left of each later one is the unit before it, and all have one right
abbrev pub rows_of_units : Client → Option Id → Option Id → ℕ → ℕ → OriginTable
rows_of_units client left right clock zero = []
rows_of_units client left right clock (suc n) =
    record { id = record { client = client; clock = clock }; left = left; right = right }
    ∷ rows_of_units client (Some (record { client = client; clock = clock })) right (suc clock) n

-- the units of a run
abbrev pub rows_of_run : Stretch → OriginTable
rows_of_run run = rows_of_units run.id.client run.left run.right run.id.clock run.len

-- the units of the runs at places
abbrev pub rows_at : List Stretch → List ℕ → OriginTable
rows_at runs places = flat_map (λ i. rows_of_run (stretch_at runs i)) places

-- the units of a list, in order
abbrev pub rows_in : Placed → ℕ → OriginTable
rows_in it list = rows_at (runs_of it) (places_in it list)
