-- Entries that became held, placed in a store with names one after another (own).
use Rattle.std.specs.Prelude.{◌≡◌, ◌≢◌, ◌↔◌, ◌⊎◌, ◌<◌, ◌≤◌, ◌+◌, ℕ, Bool, true, false, List, [], Some, filter, slice_get}
use Rattle.yd_words.specs.Member.{IsIn}
use Rattle.yd_ids.specs.declared.id.Id.{Id}
use Rattle.yd_ids.specs.Vector.{clock_of}
use Rattle.yd_ops.specs.Operation.{Operation}
use Rattle.yd_arena.specs.Arena.{runs_of, count_of, next_clock}
use Rattle.yd_arena.specs.Marks.{IsBorder}
use Rattle.yd_store.specs.Units.{operations_in, HasOperation, HasMarked}
use Rattle.yd_ops.specs.Received.{has_operation}
use Rattle.yd_meaning.specs.Held.{is_lost}
use Rattle.yd_kept.specs.Telling.{ListsAreGrown}
use Rattle.yd_kept.specs.Kept.{KeptValue, IsFilled, FillsFurther}
use Rattle.yd_entries.specs.declared.entry.Entry.{Entry}
use Rattle.yd_entries.specs.Entries.{operations_of_taken, covers, is_listed}
use Rattle.yd_received.specs.Received.{held_of}
use Rattle.yd_held.specs.Held.{HeldValue}
use Rattle.yd_held.specs.Turn.{IsNextHeld, AreHeldInTurn}

-- the store has just the ids of what is held, in lists that are filled and grew by scans
pub record KeepsIds (held : List Operation) (it : KeptValue) : Type 0 where
  pub filled : IsFilled held it
  pub all : (x : Id) → has_operation held x ≡ true → x.clock < next_clock it.store.placed x.client.0
  pub below : (x : Id) → x.clock < next_clock it.store.placed x.client.0 → has_operation held x ≡ true
  pub grown : ListsAreGrown held it.names it.store

-- and it tells of them just what is held
pub record KeepsAll (held : List Operation) (it : KeptValue) : Type 0 where
  pub ids : KeepsIds held it
  pub no_more : (o : Operation) → HasOperation it.store o → IsIn o held

-- entries can be placed: the store has ids of what is held, in lists that are filled and grew by scans, and from its next
-- clocks on these entries became held in turn, and no others
pub record CanBePlaced (k : HeldValue) (order : List ℕ) (it : KeptValue) : Type 0 where
  pub filled : IsFilled (held_of k.received) it
  pub grown : ListsAreGrown (held_of k.received) it.names it.store
  pub turn : AreHeldInTurn k.received.runs k.received.entries (next_clock it.store.placed) order (clock_of k.vector)

-- lists grew by scans and some are new; the store has the held operations from its old next clocks on besides, and those
-- that are lost are marked
pub record PlacesAll (k : HeldValue) (old new : KeptValue) : Type 0 where
  pub further : FillsFurther (held_of k.received) old new
  pub nexts : (client : ℕ) → next_clock new.store.placed client ≡ clock_of k.vector client
  pub operations : (o : Operation) → HasOperation new.store o ↔
      (HasOperation old.store o ⊎ (IsIn o (held_of k.received) × (next_clock old.store.placed o.id.client.0 ≤ o.id.clock)))
  pub marks : (id : Id) → HasMarked new.store id ↔
      (HasMarked old.store id ⊎ ((is_lost (held_of k.received) id ≡ true) × (next_clock old.store.placed id.client.0 ≤ id.clock)))

-- ---- one entry

-- the entry with a number is the next one for a store
pub record IsNextFor (k : HeldValue) (it : KeptValue) (at : ℕ) : Type 0 where
  pub entry : Entry
  pub there : slice_get k.received.entries at ≡ Some entry
  pub next : IsNextHeld k.received.runs (next_clock it.store.placed) entry

-- its units are in the store, and all else is as it was: lists have what they had beside them, and new lists nothing; and no
-- run is parted where none was
pub record AddsEntry (k : HeldValue) (t : Entry) (old new : KeptValue) : Type 0 where
  pub further : FillsFurther (held_of k.received) old new
  pub count : count_of old.store.placed ≤ count_of new.store.placed
  pub lists : (test : Operation → Bool) → ((o : Operation) → IsIn o (operations_of_taken k.received.runs t) → test o ≡ false) → (list : ℕ) →
      list < count_of old.store.placed → filter test (operations_in new.store list) ≡ filter test (operations_in old.store list)
  pub made : (test : Operation → Bool) → ((o : Operation) → IsIn o (operations_of_taken k.received.runs t) → test o ≡ false) → (list : ℕ) →
      count_of old.store.placed ≤ list → list < count_of new.store.placed → filter test (operations_in new.store list) ≡ []
  pub operations : (o : Operation) → HasOperation new.store o ↔ (HasOperation old.store o ⊎ IsIn o (operations_of_taken k.received.runs t))
  pub marks : (id : Id) → HasMarked new.store id ↔ (HasMarked old.store id ⊎ ((is_listed t ≡ false) × (covers t id ≡ true)))
  pub next : next_clock new.store.placed t.id.client.0 ≡ t.id.clock + t.len
  pub other_nexts : (client : ℕ) → client ≢ t.id.client.0 → next_clock new.store.placed client ≡ next_clock old.store.placed client
  pub borders : (client clock : ℕ) → clock ≤ next_clock old.store.placed client → IsBorder (runs_of old.store.placed) client clock →
      IsBorder (runs_of new.store.placed) client clock

-- the entry with a number was placed so, and no run goes over its first unit
pub record PlacesEntry (k : HeldValue) (at : ℕ) (old new : KeptValue) : Type 0 where
  pub entry : Entry
  pub there : slice_get k.received.entries at ≡ Some entry
  pub adds : AddsEntry k entry old new
  pub begins : IsBorder (runs_of new.store.placed) entry.id.client.0 entry.id.clock
