-- What a deletion does to the units of a store (Yjs 13, `deleted` of an item).
use Rattle.std.specs.Prelude.{◌≡◌, ◌↔◌, ◌⊎◌, ◌<◌, ℕ}
use Rattle.yd_ids.specs.declared.id.Id.{Id}
use Rattle.yd_ids.specs.declared.id.Span.{Span}
use Rattle.yd_ids.specs.Span.{InSpan}
use Rattle.yd_ops.specs.Operation.{Operation}
use Rattle.yd_arena.specs.Arena.{count_of, next_clock}
use Rattle.yd_arena.specs.Rows.{rows_in}
use Rattle.yd_store.specs.Store.{Stored}
use Rattle.yd_store.specs.Units.{operations_in, HasOperation, HasMarked}

-- the marked units are those that were marked and those of the span, and each list has the operations that it had, in their order, with the rights that
-- the order sees
pub record DeletesUnits (old new : Stored) (span : Span) : Type 0 where
  pub count : count_of new.placed ≡ count_of old.placed
  pub lists : (list : ℕ) → list < count_of old.placed → operations_in new list ≡ operations_in old list
  pub rows : (list : ℕ) → list < count_of old.placed → rows_in new.placed list ≡ rows_in old.placed list
  pub operations : (o : Operation) → HasOperation new o ↔ HasOperation old o
  pub marks : (id : Id) → HasMarked new id ↔ (HasMarked old id ⊎ InSpan span id)
  pub nexts : (client : ℕ) → next_clock new.placed client ≡ next_clock old.placed client
