-- The lists of what stands, by their numbers, and the state vector (own).
use Rattle.std.specs.Prelude.{◌≡◌, ◌<◌, ℕ, Bool, List, [], ◌∷◌, Option, Some, None, slice_get, IfSome, nat_eq, if◌then◌else◌}
use Rattle.yd_words.specs.Each.{Each}
use Rattle.yd_words.specs.Test.{is_some_and}
use Rattle.yd_ids.specs.declared.id.Client.{Client}
use Rattle.yd_ids.specs.declared.id.Id.{Id}
use Rattle.yd_ids.specs.Vector.{clock_of}
use Rattle.yd_ops.specs.declared.lists.List.{List as DocList}
use Rattle.yd_meaning.specs.Names.{item_of_list}
use Rattle.yd_meaning.specs.Held.{held_clock}
use Rattle.yd_meaning.specs.Order.{list_of}
use Rattle.yd_entries.specs.declared.entry.Entry.{Entry}
use Rattle.yd_entries.specs.declared.place.Place.{Place}
use Rattle.yd_entries.specs.declared.place.Place.TheVariants.{Waits, Lost, In}
use Rattle.yd_entries.specs.Entries.{covers}
use Rattle.yd_received.specs.Received.{ReceivedValue, held_of, listed_of}

-- the number of the list of a place, where it is one
abbrev pub list_at_place : Place → Option ℕ
list_at_place Waits = None
list_at_place Lost = None
list_at_place (In n) = Some n

-- the number of the list in which an id is held; what waits has none, and what is lost
abbrev pub number_of : List Entry → Id → Option ℕ
number_of [] x = None
number_of (t ∷ ts) x = if covers t x then list_at_place t.place else number_of ts x

-- whether the units are held in the list with the number
abbrev pub is_in_list : ℕ → Entry → Bool
is_in_list n t = is_some_and (λ m. nat_eq m n) (list_at_place t.place)

-- the vector has the clock of each client: how many of its operations are held
abbrev pub IsVectorOf : List (Client × ℕ) → ReceivedValue → Type 0
IsVectorOf vector r = (client : ℕ) → clock_of vector client ≡ held_clock (held_of r) client

-- what stands in a list with a number is of the list with that name; no two numbers have one name; and the item of a list
-- stands in a list with a smaller number
pub record AreNumbered (r : ReceivedValue) (names : List DocList) : Type 0 where
  pub named : Each (λ (t : Entry). IfSome (list_at_place t.place) (λ n. slice_get names n ≡ Some (list_of (listed_of r) t.id))) r.entries
  pub distinct : (m n : ℕ) (name : DocList) → slice_get names m ≡ Some name → slice_get names n ≡ Some name → m ≡ n
  pub parents : (n : ℕ) (name : DocList) (y : Id) → slice_get names n ≡ Some name → item_of_list name ≡ Some y →
      (m : ℕ) × (m < n) × (number_of r.entries y ≡ Some m)
