-- A store while held operations come into it, run by run: each list has what stands of it below the next clocks (own).
use Rattle.std.specs.Prelude.{◌≡◌, ◌↔◌, ◌<◌, ◌≤◌, ◌++◌, ℕ, true, false, List, [], ◌∷◌, Option, Some, IfSome, length, slice_get}
use Rattle.yd_words.specs.Member.{IsIn}
use Rattle.yd_ids.specs.declared.id.Id.{Id}
use Rattle.yd_ops.specs.declared.lists.List.{List as DocList}
use Rattle.yd_ops.specs.Operation.{Operation, operations_of_run}
use Rattle.yd_ops.specs.Value.{RunValue, len_of}
use Rattle.yd_origins.specs.Growing.{GrowsByScan}
use Rattle.yd_scan.specs.declared.stretch.Stretch.{Stretch}
use Rattle.yd_scan.specs.Stretches.{units_of}
use Rattle.yd_arena.specs.Lists.{AreLists}
use Rattle.yd_arena.specs.Arena.{Placed, runs_of, count_of, units_in, next_clock}
use Rattle.yd_store.specs.Store.{Stored, AddsRun, AddsOutside}
use Rattle.yd_ops.specs.Received.{has_operation, IsWritten}
use Rattle.yd_meaning.specs.Held.{standing}
use Rattle.yd_meaning.specs.Order.{list_of}
use Rattle.yd_meaning.specs.Grown.{table_in, IsGrown}
use Rattle.yd_meaning.specs.Staying.{StaysHeld}
use Rattle.yd_kept.specs.Placing.{HasRowsBelow, KeepsRows}

-- lists have names by their numbers, each its own; a list has the rows below the next clocks of what stands of its name; and
-- what stands below them is of a list that has a name
pub record FillsLists (held : List Operation) (names : List DocList) (placed : Placed) : Type 0 where
  pub count : length names ≡ count_of placed
  pub distinct : (m n : ℕ) (name : DocList) → slice_get names m ≡ Some name → slice_get names n ≡ Some name → m ≡ n
  pub rows : (n : ℕ) (name : DocList) → slice_get names n ≡ Some name → HasRowsBelow (table_in (standing held) name) placed n
  pub listed : (x : Id) → has_operation (standing held) x ≡ true → x.clock < next_clock placed x.client.0 →
      (n : ℕ) × (slice_get names n ≡ Some (list_of (standing held) x))

-- each list has grown by scans, from one store to another
abbrev pub ListsGrowOn : List Operation → List DocList → Placed → Placed → Type 0
ListsGrowOn held names old new = (n : ℕ) (name : DocList) → slice_get names n ≡ Some name →
    GrowsByScan (table_in (standing held) name) (units_in old n) (units_in new n)

-- the lists have grown by scans, and have the rows below the new clocks
pub record FillsOn (held : List Operation) (names : List DocList) (old new : Placed) : Type 0 where
  pub fills : FillsLists held names new
  pub grows : ListsGrowOn held names old new

-- a run comes next: its operations stand, with the next clocks of their client, and its origins are below the next clocks
pub record ComesNext (held : List Operation) (placed : Placed) (run : RunValue) : Type 0 where
  pub stands : (o : Operation) → IsIn o (operations_of_run run) → IsIn o (standing held)
  pub filled : 0 < len_of run.content
  pub next : run.id.clock ≡ next_clock placed run.id.client.0
  pub left : IfSome run.left (λ y. y.clock < next_clock placed y.client.0)
  pub right : IfSome run.right (λ y. y.clock < next_clock placed y.client.0)

-- ---- the laws

-- a store without lists and units fills none
abbrev pub FillingStarts : Type 0
FillingStarts = (held : List Operation) (placed : Placed) → count_of placed ≡ 0 → ((client : ℕ) → next_clock placed client ≡ 0) → FillsLists held [] placed

-- what filled the lists with a part that stays held fills them with the whole, where the store has no more than the part
abbrev pub FillingStays : Type 0
FillingStays = (part held : List Operation) → IsWritten held → StaysHeld part held → (names : List DocList) (placed : Placed) →
    ((x : Id) → x.clock < next_clock placed x.client.0 → has_operation part x ≡ true) → FillsLists part names placed → FillsLists held names placed

-- where all rows are as they were, the lists are filled as before
abbrev pub FillingIsKept : Type 0
FillingIsKept = (held : List Operation) (names : List DocList) (old new : Placed) → FillsLists held names old → KeepsRows old new →
    FillsOn held names old new

-- the lists are filled, with one more that is empty, and the others have the units that they had
pub record AddsName (held : List Operation) (names : List DocList) (name : DocList) (old new : Placed) : Type 0 where
  pub fills : FillsLists held (names ++ name ∷ []) new
  pub same : (n : ℕ) (other : DocList) → slice_get names n ≡ Some other → units_in new n ≡ units_in old n
  pub none : units_in new (length names) ≡ []

-- a new list has a name that none had
abbrev pub FillingAddsList : Type 0
FillingAddsList = (held : List Operation) → IsWritten held → (names : List DocList) (name : DocList) (old new : Placed) → FillsLists held names old →
    (IsIn name names → ⊥) → runs_of new ≡ runs_of old → new.linked.lists ≡ old.linked.lists ++ [] ∷ [] →
    ((client : ℕ) → next_clock new client ≡ next_clock old client) → AddsName held names name old new

-- a run that comes next goes into the list of its operations by the scan
abbrev pub FillingAddsRun : Type 0
FillingAddsRun = (held : List Operation) → IsWritten held → (names : List DocList) (old new : Stored) (list : ℕ) (run : RunValue) → AreLists old.placed.linked →
    FillsLists held names old.placed → ComesNext held old.placed run → slice_get names list ≡ Some (list_of (standing held) run.id) →
    AddsRun old new list run → FillsOn held names old.placed new.placed

-- a run of which no unit stands goes into no list
abbrev pub FillingAddsLost : Type 0
FillingAddsLost = (held : List Operation) → IsWritten held → (names : List DocList) (old new : Stored) (stretch : Stretch) (told : Option RunValue) →
    AreLists old.placed.linked → FillsLists held names old.placed → stretch.id.clock ≡ next_clock old.placed stretch.id.client.0 →
    ((x : Id) → IsIn x (units_of stretch) → has_operation (standing held) x ≡ false) → AddsOutside old new stretch told →
    FillsOn held names old.placed new.placed

-- lists keep their names, and have grown by scans since then; and those that are new have grown from nothing
pub record GrowsFrom (held : List Operation) (names : List DocList) (old : Placed) (more : List DocList) (new : Placed) : Type 0 where
  pub kept : (n : ℕ) (name : DocList) → slice_get names n ≡ Some name → slice_get more n ≡ Some name
  pub grows : ListsGrowOn held names old new
  pub made : (n : ℕ) (name : DocList) → slice_get more n ≡ Some name → length names ≤ n → IsGrown (standing held) name (units_in new n)

-- so it is at the start, and goes on where lists grow, where one is added, and where they have grown so once more; and what
-- grew in a part that stays held is grown in the whole at the end
pub record FillingGoesOn : Type 0 where
  pub start : (held : List Operation) (names : List DocList) (placed : Placed) → GrowsFrom held names placed names placed
  pub on : (held : List Operation) (names : List DocList) (old : Placed) (more : List DocList) (mid new : Placed) →
      GrowsFrom held names old more mid → FillsOn held more mid new → GrowsFrom held names old more new
  pub list : (held : List Operation) (names : List DocList) (old : Placed) (more : List DocList) (mid : Placed) (name : DocList) (new : Placed) →
      GrowsFrom held names old more mid → AddsName held more name mid new → GrowsFrom held names old (more ++ name ∷ []) new
  pub both : (held : List Operation) (names : List DocList) (old : Placed) (more : List DocList) (mid : Placed) (most : List DocList) (new : Placed) →
      GrowsFrom held names old more mid → GrowsFrom held more mid most new → GrowsFrom held names old most new
  pub end : (part held : List Operation) → IsWritten held → StaysHeld part held → (names : List DocList) (old : Placed) (more : List DocList) (new : Placed) →
      ((n : ℕ) (name : DocList) → slice_get names n ≡ Some name → IsGrown (standing part) name (units_in old n)) → GrowsFrom held names old more new →
      (n : ℕ) (name : DocList) → slice_get more n ≡ Some name → IsGrown (standing held) name (units_in new n)

-- each list has just what stands of its name, and what stands is of a list that has a name
pub record AreFilledLists (held : List Operation) (names : List DocList) (placed : Placed) : Type 0 where
  pub each : (n : ℕ) (name : DocList) → slice_get names n ≡ Some name → (x : Id) →
      IsIn x (units_in placed n) ↔ ((has_operation (standing held) x ≡ true) × (list_of (standing held) x ≡ name))
  pub others : (x : Id) → has_operation (standing held) x ≡ true → IsIn (list_of (standing held) x) names

-- so it is once the store has all that is held
abbrev pub FillingEnds : Type 0
FillingEnds = (held : List Operation) → IsWritten held → (names : List DocList) (placed : Placed) → FillsLists held names placed →
    ((x : Id) → has_operation held x ≡ true → x.clock < next_clock placed x.client.0) → AreFilledLists held names placed
