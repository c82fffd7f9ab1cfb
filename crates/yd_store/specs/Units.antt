-- The units of a store, as operations, and what a cut and an addition make of them (own).
use Rattle.std.specs.Prelude.{◌≡◌, ◌≢◌, ◌↔◌, ◌⊎◌, ◌<◌, ◌≤◌, ◌+◌, ◌++◌, ℕ, List, Option, Some, None, flat_map, length}
use Rattle.yd_ids.specs.declared.id.Id.{Id}
use Rattle.yd_words.specs.Member.{IsIn}
use Rattle.yd_ops.specs.Value.{RunValue, len_of}
use Rattle.yd_ops.specs.Operation.{Operation, operations_of_run, gone_from}
use Rattle.yd_scan.specs.declared.stretch.Stretch.{Stretch}
use Rattle.yd_scan.specs.Stretches.{stretch_at, units_of}
use Rattle.yd_arena.specs.Arena.{runs_of, count_of, places_in, units_in, next_clock}
use Rattle.yd_arena.specs.Rows.{rows_in}
use Rattle.yd_arena.specs.Marks.{IsMarked, IsBorder}
use Rattle.yd_store.specs.Contents.{told_of, run_at}
use Rattle.yd_store.specs.Store.{Stored}

-- the operations of a run: those of what is told of it, or, where it is gone, so many gone ones
abbrev pub operations_told : Stretch → Option RunValue → List Operation
operations_told stretch None = gone_from stretch.id stretch.len
operations_told stretch (Some run) = operations_of_run run

-- those of the run at a place
abbrev pub operations_at : List Stretch → List (Option RunValue) → ℕ → List Operation
operations_at runs told place = operations_told (stretch_at runs place) (run_at told place)

-- the operations of a list, in order
abbrev pub operations_in : Stored → ℕ → List Operation
operations_in it list = flat_map (operations_at (runs_of it.placed) (told_of it.contents)) (places_in it.placed list)

-- a run of the store has the operation
pub record HasOperation (it : Stored) (o : Operation) : Type 0 where
  pub place : ℕ
  pub within : place < length (runs_of it.placed)
  pub member : IsIn o (operations_at (runs_of it.placed) (told_of it.contents) place)

-- the unit with an id is marked as deleted
abbrev pub HasMarked : Stored → Id → Type 0
HasMarked it id = IsMarked (runs_of it.placed) it.marks.rows id

-- each list has the operations that it had, in their order, with the rights that the order sees, and so has the whole store; each unit keeps its mark,
-- and no clock is added; and where no run was parted, none is
pub record KeepsUnits (old new : Stored) : Type 0 where
  pub count : count_of new.placed ≡ count_of old.placed
  pub lists : (list : ℕ) → list < count_of old.placed → operations_in new list ≡ operations_in old list
  pub units : (list : ℕ) → list < count_of old.placed → units_in new.placed list ≡ units_in old.placed list
  pub rows : (list : ℕ) → list < count_of old.placed → rows_in new.placed list ≡ rows_in old.placed list
  pub operations : (o : Operation) → HasOperation new o ↔ HasOperation old o
  pub marks : (id : Id) → HasMarked new id ↔ HasMarked old id
  pub live : new.marks.live ≡ old.marks.live
  pub nexts : (client : ℕ) → next_clock new.placed client ≡ next_clock old.placed client
  pub borders : (client clock : ℕ) → IsBorder (runs_of old.placed) client clock → IsBorder (runs_of new.placed) client clock

-- a list has the operations of a run more, in a row, and all others are as they were; none of the new ones is marked; they are the next of their client,
-- and where no run was parted up to there, none is
pub record AddsUnits (old new : Stored) (list : ℕ) (run : RunValue) : Type 0 where
  pub count : count_of new.placed ≡ count_of old.placed
  pub before : List Operation
  pub behind : List Operation
  pub parts : operations_in old list ≡ before ++ behind
  pub list_is : operations_in new list ≡ before ++ operations_of_run run ++ behind
  pub others : (other : ℕ) → other < count_of old.placed → other ≢ list → operations_in new other ≡ operations_in old other
  pub operations : (o : Operation) → HasOperation new o ↔ (HasOperation old o ⊎ IsIn o (operations_of_run run))
  pub marks : (id : Id) → HasMarked new id ↔ HasMarked old id
  pub next : next_clock new.placed run.id.client.0 ≡ run.id.clock + len_of run.content
  pub other_nexts : (k : ℕ) → k ≢ run.id.client.0 → next_clock new.placed k ≡ next_clock old.placed k
  pub borders : (k c : ℕ) → c ≤ next_clock old.placed k → IsBorder (runs_of old.placed) k c → IsBorder (runs_of new.placed) k c

-- the operations of a run are there more, in no list, and all are marked; they are the next of their client
pub record AddsApart (old new : Stored) (stretch : Stretch) (run : Option RunValue) : Type 0 where
  pub count : count_of new.placed ≡ count_of old.placed
  pub lists : (list : ℕ) → list < count_of old.placed → operations_in new list ≡ operations_in old list
  pub operations : (o : Operation) → HasOperation new o ↔ (HasOperation old o ⊎ IsIn o (operations_told stretch run))
  pub marks : (id : Id) → HasMarked new id ↔ (HasMarked old id ⊎ IsIn id (units_of stretch))
  pub next : next_clock new.placed stretch.id.client.0 ≡ stretch.id.clock + stretch.len
  pub other_nexts : (k : ℕ) → k ≢ stretch.id.client.0 → next_clock new.placed k ≡ next_clock old.placed k
  pub borders : (k c : ℕ) → c ≤ next_clock old.placed k → IsBorder (runs_of old.placed) k c → IsBorder (runs_of new.placed) k c
