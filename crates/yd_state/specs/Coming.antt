-- Rows of units that came, as the entries that became held tell them (own).
use Rattle.std.specs.Prelude.{◌≡◌, ◌≢◌, ℕ, List, [], ◌∷◌, Option, Some, None, slice_get}
use Rattle.yd_ids.specs.declared.id.Span.{Span}
use Rattle.yd_ops.specs.declared.lists.List.{List as DocList}
use Rattle.yd_kept.specs.Kept.{KeptValue}
use Rattle.yd_entries.specs.declared.entry.Entry.{Entry}
use Rattle.yd_entries.specs.declared.place.Place.{Place}
use Rattle.yd_entries.specs.declared.place.Place.TheVariants.{Waits, Lost, In}
use Rattle.yd_held.specs.Held.{HeldValue}
use Rattle.yd_listing.specs.declared.came.Came.{Came}

-- the ids of an entry's units
abbrev pub span_of_entry : Entry → Span
span_of_entry t = record { client = t.id.client; clock = t.id.clock; len = t.len }

-- the number is that of a name, if it has one
abbrev pub IsNumberOf : List DocList → DocList → Option ℕ → Type 0
IsNumberOf names name None = (n : ℕ) → slice_get names n ≢ Some name
IsNumberOf names name (Some n) = slice_get names n ≡ Some name

-- the number among the names is that of the list of a place, which has another number there; a place in no list has none
abbrev pub IsListAt : List DocList → List DocList → Place → Option ℕ → Type 0
IsListAt old names Waits list = list ≡ None
IsListAt old names Lost list = list ≡ None
IsListAt old names (In m) list = (name : DocList) → slice_get old m ≡ Some name → IsNumberOf names name list

-- the units of an entry came
pub record IsCameOf (k : HeldValue) (it : KeptValue) (t : Entry) (one : Came) : Type 0 where
  pub span_is : one.span ≡ span_of_entry t
  pub list_is : IsListAt k.names it.names t.place one.list

-- so did those of the entry with a number
pub record IsCameAt (k : HeldValue) (it : KeptValue) (at : ℕ) (one : Came) : Type 0 where
  pub entry : Entry
  pub there : slice_get k.received.entries at ≡ Some entry
  pub of : IsCameOf k it entry one

-- so did those of all entries with these numbers, one after another
abbrev pub AreCame : HeldValue → KeptValue → List ℕ → List Came → Type 0
AreCame k it [] [] = Unit {0}
AreCame k it [] (one ∷ came) = ⊥
AreCame k it (at ∷ order) [] = ⊥
AreCame k it (at ∷ order) (one ∷ came) = IsCameAt k it at one × AreCame k it order came
