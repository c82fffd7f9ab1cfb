-- The laws of a store, as statements (own).
use Rattle.std.specs.Prelude.{◌≡◌, ◌↔◌, ◌<◌, ℕ, Bool, ◌&&◌, not, true, false, length, get_or, filter}
use Rattle.yd_ids.specs.declared.id.Id.{Id}
use Rattle.yd_ops.specs.Value.{RunValue}
use Rattle.yd_words.specs.Member.{IsIn}
use Rattle.yd_ops.specs.Operation.{UnitContent, mark, deleted_unit, gone_unit, Operation, level_of}
use Rattle.yd_arena.specs.Lists.{AreLists}
use Rattle.yd_arena.specs.Arena.{IsArena, runs_of, count_of, next_clock}
use Rattle.yd_arena.specs.Marks.{AreCounted}
use Rattle.yd_store.specs.Contents.{told_of}
use Rattle.yd_store.specs.Store.{Stored, AreTold, AreNoted}
use Rattle.yd_store.specs.Units.{operations_in, HasOperation, HasMarked, AddsUnits}
use Rattle.yd_store.specs.Taking.{TakesBack}

-- a store has the operations, the lists, the marks and the next clocks of another
pub record IsAsBefore (old new : Stored) : Type 0 where
  pub count : count_of new.placed ≡ count_of old.placed
  pub lists : (list : ℕ) → list < count_of old.placed → operations_in new list ≡ operations_in old list
  pub operations : (o : Operation) → HasOperation new o ↔ HasOperation old o
  pub marks : (id : Id) → HasMarked new id ↔ HasMarked old id
  pub nexts : (client : ℕ) → next_clock new.placed client ≡ next_clock old.placed client

-- a run that is added to a list and taken back leaves the store as it was
abbrev pub TakenBackIsAsBefore : Type 0
TakenBackIsAsBefore = (old new back : Stored) (list : ℕ) (run : RunValue) →
    IsArena old.placed.lines (runs_of old.placed) → AreTold (runs_of old.placed) (told_of old.contents) → AreLists old.placed.linked →
    list < count_of old.placed → run.id.clock ≡ next_clock old.placed run.id.client.0 → AddsUnits old new list run →
    TakesBack new back run.id.client.0 run.id.clock → IsAsBefore old back

-- ---- live counts

-- whether a unit counts in lengths as long as it is not deleted: format marks do not, and of what is deleted or gone nothing is told that could
abbrev pub is_counted : UnitContent → Bool
is_counted (mark key t) = false
is_counted deleted_unit = false
is_counted gone_unit = false
is_counted _ = true

-- the test says of each unit whether it is marked as deleted
abbrev pub IsMarkedBy : Stored → (Id → Bool) → Type 0
IsMarkedBy it marked = (id : Id) → (marked id ≡ true) ↔ HasMarked it id

-- what a list tells less than in full is marked as deleted
abbrev pub AreLessMarked : Stored → (Id → Bool) → ℕ → Type 0
AreLessMarked it marked list = (o : Operation) → IsIn o (operations_in it list) → level_of o.content < 2 → marked o.id ≡ true

-- whether an operation is live: it counts, and is not marked
abbrev pub is_live : (Id → Bool) → Operation → Bool
is_live marked o = not (marked o.id) && is_counted o.content

-- the live count of a list is the number of its live operations
abbrev pub LiveIsCounted : Type 0
LiveIsCounted = (it : Stored) (list : ℕ) (marked : Id → Bool) →
    IsArena it.placed.lines (runs_of it.placed) → AreLists it.placed.linked → AreTold (runs_of it.placed) (told_of it.contents) →
    AreCounted it.placed.linked it.marks.rows it.marks.live → AreNoted it.marks.rows (told_of it.contents) →
    list < count_of it.placed → IsMarkedBy it marked → AreLessMarked it marked list →
    get_or it.marks.live list 0 ≡ length (filter (is_live marked) (operations_in it list))
