-- The document that a store tells, once it has all that is held (own).
use Rattle.std.specs.Prelude.{◌≡◌, ◌<◌, ℕ, true, List, [], Some, map, slice_get}
use Rattle.yd_words.specs.Member.{IsIn}
use Rattle.yd_ids.specs.declared.id.Id.{Id}
use Rattle.yd_ops.specs.declared.lists.List.{List as DocList}
use Rattle.yd_ops.specs.Operation.{Operation}
use Rattle.yd_arena.specs.Lists.{AreLists}
use Rattle.yd_arena.specs.Arena.{runs_of, count_of, units_in, next_clock}
use Rattle.yd_store.specs.Contents.{told_of}
use Rattle.yd_store.specs.Store.{Stored, AreTold}
use Rattle.yd_store.specs.Units.{operations_in, HasOperation}
use Rattle.yd_ops.specs.Received.{has_operation, IsWritten}
use Rattle.yd_meaning.specs.Held.{standing}
use Rattle.yd_meaning.specs.Document.{Document}
use Rattle.yd_meaning.specs.Grown.{IsGrown}
use Rattle.yd_meaning.specs.Own.{HasGrownLists}
use Rattle.yd_kept.specs.Filling.{FillsLists}

-- the store is sound: no list has a place twice, and each place tells the units of its run
pub record IsSoundStore (it : Stored) : Type 0 where
  pub lists : AreLists it.placed.linked
  pub told : AreTold (runs_of it.placed) (told_of it.contents)

-- the operations of a list are its units, in their order
abbrev pub ListsTellUnits : Type 0
ListsTellUnits = (it : Stored) → IsSoundStore it → (list : ℕ) → list < count_of it.placed →
    map (λ (o : Operation). o.id) (operations_in it list) ≡ units_in it.placed list

-- a document has the operations of each list under its name, and none under others
pub record TellsLists (document : Document) (names : List DocList) (it : Stored) : Type 0 where
  pub named : (n : ℕ) (name : DocList) → slice_get names n ≡ Some name → document.units name ≡ operations_in it n
  pub others : (name : DocList) → (IsIn name names → ⊥) → document.units name ≡ []

-- the store has just what is held
pub record HasAllHeld (held : List Operation) (it : Stored) : Type 0 where
  pub all : (x : Id) → has_operation held x ≡ true → x.clock < next_clock it.placed x.client.0
  pub no_more : (o : Operation) → HasOperation it o → IsIn o held

-- each list of a store grew by scans
abbrev pub ListsAreGrown : List Operation → List DocList → Stored → Type 0
ListsAreGrown held names it = (n : ℕ) (name : DocList) → slice_get names n ≡ Some name → IsGrown (standing held) name (units_in it.placed n)

-- a document that tells the lists of a store has grown lists, where these grew and the store has just what is held
abbrev pub FilledListsAreGrown : Type 0
FilledListsAreGrown = (held : List Operation) → IsWritten held → (names : List DocList) (it : Stored) (document : Document) → IsSoundStore it →
    FillsLists held names it.placed → HasAllHeld held it → ListsAreGrown held names it → TellsLists document names it → HasGrownLists document held
