-- Entries that were placed and are taken out again, the last one first (own).
use Rattle.std.specs.Prelude.{◌≡◌, ◌<◌, ℕ, Bool, false, List, Some, filter, slice_get}
use Rattle.yd_words.specs.Member.{IsIn}
use Rattle.yd_ids.specs.declared.id.Id.{Id}
use Rattle.yd_ops.specs.Operation.{Operation}
use Rattle.yd_arena.specs.Lists.{AreLists}
use Rattle.yd_arena.specs.Arena.{Placed, IsArena, runs_of, count_of, next_clock}
use Rattle.yd_arena.specs.Marks.{IsBorder}
use Rattle.yd_store.specs.Contents.{told_of}
use Rattle.yd_store.specs.Store.{Stored, AreTold}
use Rattle.yd_store.specs.Units.{operations_in, HasOperation, HasMarked}
use Rattle.yd_kept.specs.Back.{is_below, HasGoneBack}
use Rattle.yd_kept.specs.Kept.{KeptValue, KeepsHeld}
use Rattle.yd_entries.specs.declared.entry.Entry.{Entry}
use Rattle.yd_held.specs.Held.{HeldValue}
use Rattle.yd_held.specs.Turn.{AreHeldInTurn}

-- no run goes over the first unit of an entry with one of these numbers
abbrev pub BeginAtBorders : List Entry → List ℕ → Stored → Type 0
BeginAtBorders taken order it = (at : ℕ) (t : Entry) → IsIn at order → slice_get taken at ≡ Some t → IsBorder (runs_of it.placed) t.id.client.0 t.id.clock

-- entries were placed in turn, up to the next clocks of a store
pub record CanBeTakenOut (k : HeldValue) (order : List ℕ) (it : KeptValue) : Type 0 where
  pub clocks : ℕ → ℕ
  pub turn : AreHeldInTurn k.received.runs k.received.entries clocks order (next_clock it.store.placed)
  pub borders : BeginAtBorders k.received.entries order it.store

-- whether an operation is below the next clock of its client
abbrev pub is_unit_below : Placed → Operation → Bool
is_unit_below placed o = is_below placed o.id

-- what is below other next clocks is left as it was: each test that what is gone fails finds the same in the lists
pub record LeavesBelow (old new : Stored) : Type 0 where
  pub count : count_of new.placed ≡ count_of old.placed
  pub lists : (test : Operation → Bool) → ((o : Operation) → is_unit_below new.placed o ≡ false → test o ≡ false) → (list : ℕ) → list < count_of old.placed →
      filter test (operations_in new list) ≡ filter test (operations_in old list)
  pub fewer : (o : Operation) → HasOperation new o → HasOperation old o
  pub left : (o : Operation) → HasOperation old o → o.id.clock < next_clock new.placed o.id.client.0 → HasOperation new o
  pub fewer_marks : (id : Id) → HasMarked new id → HasMarked old id
  pub left_marks : (id : Id) → HasMarked old id → id.clock < next_clock new.placed id.client.0 → HasMarked new id
  pub borders : (client clock : ℕ) → IsBorder (runs_of old.placed) client clock → IsBorder (runs_of new.placed) client clock
  pub gone : (from : Placed) → HasGoneBack from old.placed → HasGoneBack from new.placed

-- so it is with the clocks from which the entries were placed in turn
pub record TakesOut (k : HeldValue) (order : List ℕ) (old new : KeptValue) : Type 0 where
  pub names : new.names ≡ old.names
  pub leaves : LeavesBelow old.store new.store
  pub nexts : (clocks : ℕ → ℕ) → AreHeldInTurn k.received.runs k.received.entries clocks order (next_clock old.store.placed) →
      (client : ℕ) → next_clock new.store.placed client ≡ clocks client

-- a store is sound: each unit is found by its id, no list has a place twice, and each place tells the units of its run
pub record IsSound (it : Stored) : Type 0 where
  pub arena : IsArena it.placed.lines (runs_of it.placed)
  pub lists : AreLists it.placed.linked
  pub told : AreTold (runs_of it.placed) (told_of it.contents)

-- entries that were placed can be taken out again, and then no unit has changed
pub record CanBeUndone (k : HeldValue) (order : List ℕ) (old new : KeptValue) : Type 0 where
  pub can : CanBeTakenOut k order new
  pub undone : (back : KeptValue) → IsSound back.store → TakesOut k order new back → KeepsHeld old back
