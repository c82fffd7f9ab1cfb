-- A list of an arena while its operations come, beside the table of all that it is going to have (own).
use Rattle.std.specs.Prelude.{◌≡◌, ◌↔◌, ◌<◌, ◌≤◌, ◌+◌, ◌++◌, ℕ, [], ◌∷◌, IfSome, length}
use Rattle.yd_words.specs.Member.{IsIn}
use Rattle.yd_ids.specs.declared.id.Id.{Id}
use Rattle.yd_origins.specs.Table.{Row, OriginTable, ids_of, left_of, right_of}
use Rattle.yd_origins.specs.Growing.{GrowsByScan, IsClosed}
use Rattle.yd_scan.specs.declared.stretch.Stretch.{Stretch}
use Rattle.yd_scan.specs.Stretches.{stretch_at, units_of}
use Rattle.yd_arena.specs.Lists.{AreLists}
use Rattle.yd_arena.specs.Arena.{Placed, runs_of, count_of, places_in, units_in, next_clock, IsSame, CutsRun, GrowsByRun}
use Rattle.yd_arena.specs.Rows.{rows_of_run, rows_in}

-- a row is the table's: it has the left and the right that the table has of its id
pub record IsRowOf (table : OriginTable) (row : Row) : Type 0 where
  pub left : left_of table row.id ≡ row.left
  pub right : right_of table row.id ≡ row.right

-- a list has the rows of a table that are below the next clocks of their clients, with the lefts and rights of each
pub record HasRowsBelow (table : OriginTable) (placed : Placed) (list : ℕ) : Type 0 where
  pub each : (x : Id) → IsIn x (units_in placed list) ↔ (IsIn x (ids_of table) × (x.clock < next_clock placed x.client.0))
  pub as_rows : (row : Row) → IsIn row (rows_in placed list) → IsRowOf table row
  pub closed : IsClosed table (units_in placed list)

-- a run is the next one of a table: its units are rows with the next clocks of their client, and its left and its right
-- are in the list
pub record IsNextRun (table : OriginTable) (placed : Placed) (list : ℕ) (run : Stretch) : Type 0 where
  pub rows : (row : Row) → IsIn row (rows_of_run run) → IsIn row.id (ids_of table) × IsRowOf table row
  pub next : run.id.clock ≡ next_clock placed run.id.client.0
  pub filled : 0 < run.len
  pub left : IfSome run.left (λ y. IsIn y (units_in placed list))
  pub right : IfSome run.right (λ y. IsIn y (units_in placed list))

-- a run comes with the next clocks of its client, and not into this list
pub record ComesElsewhere (old new : Placed) (list : ℕ) (run : Stretch) : Type 0 where
  pub runs : runs_of new ≡ runs_of old ++ run ∷ []
  pub places : places_in new list ≡ places_in old list
  pub begins : run.id.clock ≡ next_clock old run.id.client.0
  pub next : next_clock new run.id.client.0 ≡ run.id.clock + run.len
  pub other_nexts : (client : ℕ) → (client ≡ run.id.client.0 → ⊥) → next_clock new client ≡ next_clock old client

-- each list has the rows that it had, in their order, and each client its next clock
pub record KeepsRows (old new : Placed) : Type 0 where
  pub count : count_of new ≡ count_of old
  pub rows : (list : ℕ) → list < count_of old → rows_in new list ≡ rows_in old list
  pub nexts : (client : ℕ) → next_clock new client ≡ next_clock old client

-- ---- the laws

-- all rows stay where a run is cut, where nothing changes but room, and where they stay twice
pub record RowsAreKept : Type 0 where
  pub by_cuts : (old new : Placed) (place n : ℕ) → AreLists old.linked → place < length (runs_of old) → 0 < n → n ≤ (stretch_at (runs_of old) place).len →
      CutsRun old new place n → KeepsRows old new
  pub by_room : (old new : Placed) → IsSame old new → KeepsRows old new
  pub twice : (old mid new : Placed) → KeepsRows old mid → KeepsRows mid new → KeepsRows old new

-- where all rows are as they were, a list has those of a table as before
abbrev pub SameRowsStay : Type 0
SameRowsStay = (table : OriginTable) (old new : Placed) (list : ℕ) → list < count_of old → HasRowsBelow table old list → KeepsRows old new →
    HasRowsBelow table new list

-- with a run more the list has grown by scans, and has the rows of the table that are below the new clocks
pub record GrowsInto (table : OriginTable) (old new : Placed) (list : ℕ) : Type 0 where
  pub grows : GrowsByScan table (units_in old list) (units_in new list)
  pub rows : HasRowsBelow table new list

-- so it is with each run that is the next one of the table, where the integration scan puts it
abbrev pub RunsGrow : Type 0
RunsGrow = (table : OriginTable) (old new : Placed) (list : ℕ) (run : Stretch) → AreLists old.linked → list < count_of old → HasRowsBelow table old list →
    IsNextRun table old list run → GrowsByRun old new list run → GrowsInto table old new list

-- a list into which a run did not go has the units that it had, and the rows of its table below the new clocks, where no
-- unit of the run is one of these
abbrev pub OtherListsStay : Type 0
OtherListsStay = (table : OriginTable) (old new : Placed) (list : ℕ) (run : Stretch) → AreLists old.linked → list < count_of old → HasRowsBelow table old list →
    ComesElsewhere old new list run → ((x : Id) → IsIn x (units_of run) → IsIn x (ids_of table) → ⊥) →
    (units_in new list ≡ units_in old list) × HasRowsBelow table new list
