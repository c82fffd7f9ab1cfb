-- A store whose lists have names, and what becomes of its lists while runs go into it (own).
use Rattle.std.specs.Prelude.{◌≡◌, ◌↔◌, ◌<◌, ◌≤◌, ℕ, false, List, [], Option, Some, None, length, slice_get}
use Rattle.yd_words.specs.Member.{IsIn}
use Rattle.yd_ids.specs.declared.id.Id.{Id}
use Rattle.yd_ops.specs.declared.lists.List.{List as DocList}
use Rattle.yd_ops.specs.Operation.{Operation}
use Rattle.yd_ops.specs.Value.{RunValue}
use Rattle.yd_scan.specs.declared.stretch.Stretch.{Stretch}
use Rattle.yd_scan.specs.Stretches.{units_of}
use Rattle.yd_arena.specs.Arena.{runs_of, count_of, next_clock}
use Rattle.yd_arena.specs.Rows.{rows_in}
use Rattle.yd_arena.specs.Marks.{IsBorder}
use Rattle.yd_store.specs.Store.{Stored}
use Rattle.yd_store.specs.Units.{operations_in, HasOperation, HasMarked, AddsUnits}
use Rattle.yd_ops.specs.Received.{has_operation, IsWritten}
use Rattle.yd_meaning.specs.Held.{standing}
use Rattle.yd_meaning.specs.Order.{list_of}
use Rattle.yd_kept.specs.Filling.{FillsLists, ComesNext, GrowsFrom}

-- a store, and the names of its lists by their numbers
pub record KeptValue : Type 0 where
  pub store : Stored
  pub names : List DocList

-- each list has a name
abbrev pub HaveNames : Stored → List DocList → Type 0
HaveNames store names = length names ≡ count_of store.placed

-- ---- what is held

-- the lists are filled with what stands of held operations below the next clocks
abbrev pub IsFilled : List Operation → KeptValue → Type 0
IsFilled held it = FillsLists held it.names it.store.placed

-- the lists are filled, and have grown by scans since then, new ones from nothing
pub record FillsFurther (held : List Operation) (old new : KeptValue) : Type 0 where
  pub fills : IsFilled held new
  pub grows : GrowsFrom held old.names old.store.placed new.names new.store.placed

-- so it is with all held operations that filled the lists
abbrev pub StaysFilled : KeptValue → KeptValue → Type 0
StaysFilled old new = (held : List Operation) → IsWritten held → IsFilled held old → FillsFurther held old new

-- so it is with those of which a run comes next
abbrev pub FillsByRun : KeptValue → KeptValue → RunValue → Type 0
FillsByRun old new run = (held : List Operation) → IsWritten held → IsFilled held old → ComesNext held old.store.placed run → FillsFurther held old new

-- so it is with those of which no unit of a run stands
abbrev pub FillsByLost : KeptValue → KeptValue → Stretch → Type 0
FillsByLost old new stretch = (held : List Operation) → IsWritten held → IsFilled held old →
    ((x : Id) → IsIn x (units_of stretch) → has_operation (standing held) x ≡ false) → FillsFurther held old new

-- a run comes next of some held operations that fill the lists
pub record ComesNextOfSome (it : KeptValue) (run : RunValue) : Type 0 where
  pub held : List Operation
  pub written : IsWritten held
  pub filled : IsFilled held it
  pub comes : ComesNext held it.store.placed run

-- ---- the list of a run

-- the origin that says which list a run is of: the left one, else the right one
abbrev pub telling_origin : Option Id → Option Id → Option Id
telling_origin None right = right
telling_origin (Some left) right = Some left

-- the list has the name of the run's operations, whatever is held of which the run comes next
abbrev pub IsListFor : KeptValue → RunValue → ℕ → Type 0
IsListFor it run list = (held : List Operation) → IsWritten held → IsFilled held it → ComesNext held it.store.placed run →
    slice_get it.names list ≡ Some (list_of (standing held) run.id)

-- ---- changes

-- each list has the operations that it had, in their order, with the rights that the order sees, its name and its marks; there may be one more list, which
-- is empty; no clock is added; and where no run was parted, none is
pub record KeepsHeld (old new : KeptValue) : Type 0 where
  pub count : count_of old.store.placed ≤ count_of new.store.placed
  pub names : (n : ℕ) (name : DocList) → slice_get old.names n ≡ Some name → slice_get new.names n ≡ Some name
  pub lists : (list : ℕ) → list < count_of old.store.placed → operations_in new.store list ≡ operations_in old.store list
  pub rows : (list : ℕ) → list < count_of old.store.placed → rows_in new.store.placed list ≡ rows_in old.store.placed list
  pub made : (list : ℕ) → count_of old.store.placed ≤ list → list < count_of new.store.placed → operations_in new.store list ≡ []
  pub operations : (o : Operation) → HasOperation new.store o ↔ HasOperation old.store o
  pub marks : (id : Id) → HasMarked new.store id ↔ HasMarked old.store id
  pub nexts : (client : ℕ) → next_clock new.store.placed client ≡ next_clock old.store.placed client
  pub borders : (client clock : ℕ) → IsBorder (runs_of old.store.placed) client clock → IsBorder (runs_of new.store.placed) client clock
  pub filled : StaysFilled old new

-- each list has the operations that it had, in their order, with the rights that the order sees, its name, its live units and its marks; no list and no
-- clock is added; but a run may go over a clock where two met
pub record JoinsHeld (old new : KeptValue) : Type 0 where
  pub names : new.names ≡ old.names
  pub count : count_of new.store.placed ≡ count_of old.store.placed
  pub lists : (list : ℕ) → list < count_of old.store.placed → operations_in new.store list ≡ operations_in old.store list
  pub rows : (list : ℕ) → list < count_of old.store.placed → rows_in new.store.placed list ≡ rows_in old.store.placed list
  pub operations : (o : Operation) → HasOperation new.store o ↔ HasOperation old.store o
  pub marks : (id : Id) → HasMarked new.store id ↔ HasMarked old.store id
  pub live : new.store.marks.live ≡ old.store.marks.live
  pub nexts : (client : ℕ) → next_clock new.store.placed client ≡ next_clock old.store.placed client
  pub filled : StaysFilled old new

-- a run goes into a list, which may be made for it, and there its units stand in a row where the scan puts the first
pub record HoldsRun (old new : KeptValue) (run : RunValue) : Type 0 where
  pub ready : KeptValue
  pub keeps : KeepsHeld old ready
  pub names : new.names ≡ ready.names
  pub list : ℕ
  pub adds : AddsUnits ready.store new.store list run
  pub filled : FillsByRun old new run
