-- What stays true while units are held, and what holds when all are that can be (own).
use Rattle.std.specs.Prelude.{◌↔◌, ◌≡◌, ◌<◌, ◌+◌, ℕ, suc, true, false, List, [], ◌∷◌, Some, map, set, slice_get, if◌then◌else◌}
use Rattle.yd_words.specs.Each.{Each}
use Rattle.yd_ids.specs.declared.id.Client.{Client}
use Rattle.yd_ids.specs.declared.id.Id.{Id}
use Rattle.yd_ids.specs.Vector.{clock_of, RaisesOnly}
use Rattle.yd_ops.specs.declared.lists.List.{List as DocList}
use Rattle.yd_ops.specs.declared.runs.Run.{Run}
use Rattle.yd_ops.specs.Received.{has_operation}
use Rattle.yd_meaning.specs.Names.{item_of_list}
use Rattle.yd_meaning.specs.Held.{held_set}
use Rattle.yd_entries.specs.declared.entry.Entry.{Entry}
use Rattle.yd_entries.specs.declared.place.Place.{Place}
use Rattle.yd_entries.specs.Entries.{is_held, is_held_at, GrowBy}
use Rattle.yd_received.specs.Received.{IsReceived, taken_of, held_of, with_place, undone}
use Rattle.yd_held.specs.Held.{HeldValue, HoldsAll}
use Rattle.yd_held.specs.Numbered.{number_of}
use Rattle.yd_held.specs.Placed.{ArePlaced}
use Rattle.yd_held.specs.Readiness.{is_ready}

-- ---- while it is held

-- what is held has all that it needs, its ids are those below the vector, and its places are as its origins ask
pub record IsHolding (k : HeldValue) : Type 0 where
  pub in_order : IsReceived k.received
  pub own : held_of k.received ≡ held_set (held_of k.received)
  pub tells : (x : Id) → has_operation (held_of k.received) x ≡ true ↔ x.clock < clock_of k.vector x.client.0
  pub placed : ArePlaced k.received k.names
  pub distinct : (m n : ℕ) (name : DocList) → slice_get k.names m ≡ Some name → slice_get k.names n ≡ Some name → m ≡ n
  pub parents : (n : ℕ) (name : DocList) (y : Id) → slice_get k.names n ≡ Some name → item_of_list name ≡ Some y →
      (m : ℕ) × (m < n) × (number_of k.received.entries y ≡ Some m)

-- how many entries wait
abbrev pub count_waiting : List Entry → ℕ
count_waiting [] = 0
count_waiting (t ∷ ts) = if is_held t then count_waiting ts else suc (count_waiting ts)

-- no entry is ready
abbrev pub AreUnready : List (Client × ℕ) → List Run → List Entry → Type 0
AreUnready vector runs taken = Each (λ t. is_ready vector runs t ≡ false) taken

-- an entry got a place and is held, and its client's clock is behind it
pub record HoldsEntry (at : ℕ) (old new : List Entry) (vector raised : List (Client × ℕ)) : Type 0 where
  pub entry : Entry
  pub place : Place
  pub there : slice_get old at ≡ Some entry
  pub placed : new ≡ set old at (with_place entry place)
  pub held : is_held_at place ≡ true
  pub raises : RaisesOnly vector raised entry.id.client.0 (entry.id.clock + entry.len)

-- ---- when all is held that can be

-- of the same operations all is held
pub record HoldsRest (old new : HeldValue) : Type 0 where
  pub holds : HoldsAll new
  pub operations : taken_of new.received ≡ taken_of old.received

-- put to wait again, the units are as they were; and names were added behind the others
pub record OnlyHolds (old new : HeldValue) : Type 0 where
  pub runs_are : new.received.runs ≡ old.received.runs
  pub undone_is : map (undone old.vector) new.received.entries ≡ map (undone old.vector) old.received.entries
  pub grows : GrowBy old.names new.names
