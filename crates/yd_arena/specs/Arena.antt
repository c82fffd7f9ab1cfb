-- An arena: runs at places, the lists that link them, and the index that finds them by their ids (own).
use Rattle.std.specs.Prelude.{◌≡◌, ◌≢◌, ◌<◌, ◌+◌, ◌++◌, ◌∷◌, [], ℕ, List, Option, min, length}
use Rattle.yd_ids.specs.declared.id.Id.{Id}
use Rattle.yd_ids.specs.Id.{IsClock}
use Rattle.yd_origins.specs.Growing.{IsRun}
use Rattle.yd_origins.specs.Scan.{after_scans}
use Rattle.yd_chains.specs.Chain.{put_behind}
use Rattle.yd_scan.specs.declared.stretch.Stretch.{Stretch}
use Rattle.yd_scan.specs.Stretches.{stretch_at, units_of, later_units, units_at, HasOrigins, HasLefts}
use Rattle.yd_index.specs.Line.{Lined}
use Rattle.yd_index.specs.Lines.{entries_of, next_of, room_of}
use Rattle.yd_index.specs.Holding.{Holds, cut_stretches}
use Rattle.yd_arena.specs.Lists.{Linked, list_at, PutsBehind, TakesOut, emptied}

-- the lines of the index, and the runs with their lists
pub record Placed : Type 0 where
  pub lines : List Lined
  pub linked : Linked

-- the runs by place
abbrev pub runs_of : Placed → List Stretch
runs_of it = it.linked.stretches

-- how many lists there are
abbrev pub count_of : Placed → ℕ
count_of it = length it.linked.lists

-- the places of a list, in order
abbrev pub places_in : Placed → ℕ → List ℕ
places_in it list = list_at it.linked list

-- the units of a list, in order
abbrev pub units_in : Placed → ℕ → List Id
units_in it list = units_at it.linked.stretches (list_at it.linked list)

-- the clock of a client's next unit
abbrev pub next_clock : Placed → ℕ → ℕ
next_clock it client = next_of it.lines client

-- how many more runs of a client cannot fail
abbrev pub room_for : Placed → ℕ → ℕ
room_for it client = min it.linked.room (room_of it.lines client)

-- the runs fill the clocks of each client to its next one, which is a clock, and the entries of the index are those of the runs
pub record IsArena (lines : List Lined) (runs : List Stretch) : Type 0 where
  pub holds : Holds lines runs
  pub clocks : (client : ℕ) → IsClock (next_of lines client)

-- the run at a place has a unit of this id, behind so many others
pub record HasUnit (runs : List Stretch) (place n : ℕ) (id : Id) : Type 0 where
  pub within : place < length runs
  pub inside : n < (stretch_at runs place).len
  pub client : (stretch_at runs place).id.client ≡ id.client
  pub clock : (stretch_at runs place).id.clock + n ≡ id.clock

-- the runs, the lists and what the index finds are as before, and so is all but the room
pub record IsSame (old new : Placed) : Type 0 where
  pub runs : runs_of new ≡ runs_of old
  pub lists : new.linked.lists ≡ old.linked.lists
  pub entries : (client : ℕ) → entries_of new.lines client ≡ entries_of old.lines client
  pub nexts : (client : ℕ) → next_clock new client ≡ next_clock old client

-- a run is cut in two behind so many units, and no list and no client has others than before
pub record CutsRun (old new : Placed) (place n : ℕ) : Type 0 where
  pub runs : runs_of new ≡ cut_stretches (runs_of old) place n
  pub lists : PutsBehind old.linked.lists new.linked.lists place (length (runs_of old))
  pub nexts : (client : ℕ) → next_clock new client ≡ next_clock old client
  pub units : (list : ℕ) → list < count_of old → units_in new list ≡ units_in old list

-- the run of a unit is cut in front of it
pub record CutsAt (old new : Placed) (id : Id) : Type 0 where
  pub place : ℕ
  pub before : ℕ
  pub has : HasUnit (runs_of old) place before id
  pub later : 0 < before
  pub cuts : CutsRun old new place before

-- a run goes into a list at the end of its client's units, and the list has grown by the scans of its units in turn
pub record GrowsByRun (old new : Placed) (list : ℕ) (run : Stretch) : Type 0 where
  pub after : Option ℕ
  pub runs : runs_of new ≡ runs_of old ++ run ∷ []
  pub count : count_of new ≡ count_of old
  pub place : places_in new list ≡ put_behind after (length (runs_of old)) (places_in old list)
  pub units : (left right : Id → Option Id) → HasOrigins left right (runs_of old) (places_in old list) run → IsRun left run.id (later_units run) →
      HasLefts (runs_of old) (places_in old list) →
      units_in new list ≡ after_scans left right (units_in old list) (units_of run)
  pub others : (other : ℕ) → other ≢ list → places_in new other ≡ places_in old other
  pub next : next_clock new run.id.client.0 ≡ run.id.clock + run.len
  pub other_nexts : (client : ℕ) → client ≢ run.id.client.0 → next_clock new client ≡ next_clock old client

-- a run goes to the end of its client's units, and no list changes
pub record AddsLoose (old new : Placed) (run : Stretch) : Type 0 where
  pub runs : runs_of new ≡ runs_of old ++ run ∷ []
  pub lists : new.linked.lists ≡ old.linked.lists
  pub next : next_clock new run.id.client.0 ≡ run.id.clock + run.len
  pub other_nexts : (client : ℕ) → client ≢ run.id.client.0 → next_clock new client ≡ next_clock old client

-- the last run of a client has no units any more and is in no list, and its first clock is the client's next one again
pub record TakesLast (old new : Placed) (client place : ℕ) : Type 0 where
  pub within : place < length (runs_of old)
  pub own : (stretch_at (runs_of old) place).id.client.0 ≡ client
  pub filled : 0 < (stretch_at (runs_of old) place).len
  pub ends : (stretch_at (runs_of old) place).id.clock + (stretch_at (runs_of old) place).len ≡ next_clock old client
  pub runs : runs_of new ≡ emptied (runs_of old) place
  pub lists : TakesOut old.linked.lists new.linked.lists place
  pub next : next_clock new client ≡ (stretch_at (runs_of old) place).id.clock
  pub other_nexts : (k : ℕ) → k ≢ client → next_clock new k ≡ next_clock old k
