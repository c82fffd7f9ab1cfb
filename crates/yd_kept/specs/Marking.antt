-- The ids of a set, deleted at once in a store with names (Yjs 13, a delete set that is carried out).
use Rattle.std.specs.Prelude.{◌≡◌, ◌↔◌, ◌⊎◌, ◌<◌, ◌+◌, ℕ, List}
use Rattle.yd_words.specs.Each.{Each}
use Rattle.yd_ids.specs.declared.id.Id.{Id}
use Rattle.yd_ids.specs.declared.id.Span.{Span}
use Rattle.yd_ids.specs.Set.{HasId}
use Rattle.yd_ops.specs.Operation.{Operation}
use Rattle.yd_arena.specs.Arena.{runs_of, count_of, next_clock}
use Rattle.yd_arena.specs.Rows.{rows_in}
use Rattle.yd_arena.specs.Marks.{IsBorder}
use Rattle.yd_store.specs.Store.{Stored}
use Rattle.yd_store.specs.Units.{operations_in, HasOperation, HasMarked}
use Rattle.yd_kept.specs.Kept.{KeptValue, StaysFilled, KeepsHeld}

-- each id of the spans is held
abbrev pub AreHeld : Stored → List Span → Type 0
AreHeld it spans = (id : Id) → HasId spans id → id.clock < next_clock it.placed id.client.0

-- no run goes over an end of the span
pub record IsParted (it : Stored) (span : Span) : Type 0 where
  pub front : IsBorder (runs_of it.placed) span.client.0 span.clock
  pub back : IsBorder (runs_of it.placed) span.client.0 (span.clock + span.len)

-- and so it is with each of the spans
abbrev pub AreParted : Stored → List Span → Type 0
AreParted it spans = Each (IsParted it) spans

-- the marked units are those that were marked and those of the spans, and nothing else has changed in the store
pub record MarksUnits (old new : Stored) (spans : List Span) : Type 0 where
  pub placed : new.placed ≡ old.placed
  pub contents : new.contents ≡ old.contents
  pub marks : (id : Id) → HasMarked new id ↔ (HasMarked old id ⊎ HasId spans id)

-- so it is in a store with names, whose lists are filled as they were
pub record MarksEach (old new : KeptValue) (spans : List Span) : Type 0 where
  pub units : MarksUnits old.store new.store spans
  pub names : new.names ≡ old.names
  pub filled : StaysFilled old new

-- the marked units are those that were marked and those of the spans, and each list has the operations that it had, in their order, with the rights that
-- the order sees, and its name
pub record DeletesEach (old new : KeptValue) (spans : List Span) : Type 0 where
  pub names : new.names ≡ old.names
  pub count : count_of new.store.placed ≡ count_of old.store.placed
  pub lists : (list : ℕ) → list < count_of old.store.placed → operations_in new.store list ≡ operations_in old.store list
  pub rows : (list : ℕ) → list < count_of old.store.placed → rows_in new.store.placed list ≡ rows_in old.store.placed list
  pub operations : (o : Operation) → HasOperation new.store o ↔ HasOperation old.store o
  pub marks : (id : Id) → HasMarked new.store id ↔ (HasMarked old.store id ⊎ HasId spans id)
  pub nexts : (client : ℕ) → next_clock new.store.placed client ≡ next_clock old.store.placed client
  pub filled : StaysFilled old new

-- runs that are parted first and then marked: their units are deleted
abbrev pub PartingAndMarkingDeletes : Type 0
PartingAndMarkingDeletes = (old mid new : KeptValue) (spans : List Span) → KeepsHeld old mid → mid.names ≡ old.names →
    count_of mid.store.placed ≡ count_of old.store.placed → MarksEach mid new spans → DeletesEach old new spans
