-- The laws of placing, as statements (own).
use Rattle.std.specs.Prelude.{◌≡◌, ◌↔◌, ◌<◌, ◌≤◌, ℕ, Bool, List, [], Some, slice_get}
use Rattle.yd_ids.specs.Vector.{clock_of}
use Rattle.yd_ids.specs.declared.id.Id.{Id}
use Rattle.yd_ops.specs.declared.lists.List.{List as DocList}
use Rattle.yd_ops.specs.Operation.{Operation}
use Rattle.yd_arena.specs.Arena.{runs_of, count_of, next_clock}
use Rattle.yd_store.specs.Units.{operations_in, HasOperation, HasMarked}
use Rattle.yd_ops.specs.Received.{IsWritten}
use Rattle.yd_meaning.specs.Document.{Document, document_with}
use Rattle.yd_meaning.specs.Grown.{StandsHonest}
use Rattle.yd_meaning.specs.Own.{HasGrownLists}
use Rattle.yd_kept.specs.Telling.{IsSoundStore, TellsLists}
use Rattle.yd_kept.specs.Kept.{KeptValue, StaysFilled}
use Rattle.yd_received.specs.Received.{held_of}
use Rattle.yd_held.specs.Held.{HeldValue, HoldsAll}
use Rattle.yd_held.specs.Turn.{AreHeldInTurn, HoldsOn}
use Rattle.yd_state.specs.Placing.{KeepsAll, CanBePlaced}

-- a store has no runs and no lists
pub record IsEmptyStore (it : KeptValue) : Type 0 where
  pub names : it.names ≡ []
  pub runs : runs_of it.store.placed ≡ []
  pub lists : count_of it.store.placed ≡ 0
  pub clocks : (client : ℕ) → next_clock it.store.placed client ≡ 0

-- entries that became held can be placed: where what was held stays held, in a store that has just this; and where all was
-- held anew, in one that is empty
pub record EntriesCanBePlaced : Type 0 where
  pub on : (old new : HeldValue) → HoldsAll old → HoldsAll new → (told order : List ℕ) → HoldsOn told order old new → (it : KeptValue) →
      KeepsAll (held_of old.received) it → CanBePlaced new order it
  pub anew : (new : HeldValue) → HoldsAll new → (order : List ℕ) →
      AreHeldInTurn new.received.runs new.received.entries (λ client. 0) order (clock_of new.vector) → (it : KeptValue) → IsEmptyStore it → CanBePlaced new order it

-- each list of a store has the operations that it had, in their order, under its name; there may be lists more, which are empty; each unit keeps its
-- mark, and no clock is added
pub record KeepsLists (old new : KeptValue) : Type 0 where
  pub names : (n : ℕ) (name : DocList) → slice_get old.names n ≡ Some name → slice_get new.names n ≡ Some name
  pub lists : (list : ℕ) → list < count_of old.store.placed → operations_in new.store list ≡ operations_in old.store list
  pub made : (list : ℕ) → count_of old.store.placed ≤ list → list < count_of new.store.placed → operations_in new.store list ≡ []
  pub operations : (o : Operation) → HasOperation new.store o ↔ HasOperation old.store o
  pub marks : (id : Id) → HasMarked new.store id ↔ HasMarked old.store id
  pub nexts : (client : ℕ) → next_clock new.store.placed client ≡ next_clock old.store.placed client
  pub filled : StaysFilled old new

-- a store that has just what is held has so still where no unit changed
abbrev pub KeepingKeepsAll : Type 0
KeepingKeepsAll = (held : List Operation) → IsWritten held → (old new : KeptValue) → KeepsAll held old → KeepsLists old new → KeepsAll held new

-- a document that tells the lists of a store with just what is held has grown lists; and where what stands keeps the edit
-- rules, each has the operations that are defined, in the origin order
pub record StoreTellsLists : Type 0 where
  pub grown : (held : List Operation) → IsWritten held → (it : KeptValue) → IsSoundStore it.store → KeepsAll held it → (document : Document) →
      TellsLists document it.names it.store → HasGrownLists document held
  pub defined : (held : List Operation) → IsWritten held → StandsHonest held → (it : KeptValue) → IsSoundStore it.store → KeepsAll held it → (document : Document) →
      TellsLists document it.names it.store → (named : Id → Bool) (list : DocList) → document.units list ≡ (document_with held named).units list
