-- Which number a list has, and the place of units that become held (own).
use Rattle.std.specs.Prelude.{◌≡◌, ◌≢◌, ◌⊎◌, ℕ, true, false, List, [], ◌∷◌, ◌++◌, Option, Some, None, slice_get}
use Rattle.yd_ids.specs.declared.id.Id.{Id}
use Rattle.yd_ops.specs.declared.lists.List.{List as DocList}
use Rattle.yd_meaning.specs.Order.{list_or_root}
use Rattle.yd_entries.specs.declared.entry.Entry.{Entry}
use Rattle.yd_entries.specs.declared.place.Place.{Place}
use Rattle.yd_entries.specs.declared.place.Place.TheVariants.{Waits, Lost, In}
use Rattle.yd_entries.specs.Entries.{carried_of}
use Rattle.yd_received.specs.Received.{ReceivedValue}
use Rattle.yd_held.specs.Numbered.{number_of}
use Rattle.yd_held.specs.Placed.{can_stand}

-- the name has the number among the new names, which are the old ones, or with a name that is new one more
pub record NumbersName (name : DocList) (old new : List DocList) (n : ℕ) : Type 0 where
  pub there : slice_get new n ≡ Some name
  pub grown : (new ≡ old) ⊎ ((new ≡ old ++ name ∷ []) × ((m : ℕ) → slice_get old m ≢ Some name))

-- the number is that of the left origin's list, else of the right origin's, else of the list that is carried
abbrev pub NumbersList : Option Id → Option Id → DocList → List Entry → List DocList → List DocList → ℕ → Type 0
NumbersList (Some y) right name taken old new n = (number_of taken y ≡ Some n) × (new ≡ old)
NumbersList None (Some y) name taken old new n = (number_of taken y ≡ Some n) × (new ≡ old)
NumbersList None None name taken old new n = NumbersName name old new n

-- the number is that of the list which the units are of
abbrev pub NumbersEntry : ReceivedValue → List DocList → List DocList → Entry → ℕ → Type 0
NumbersEntry r old new t n = NumbersList t.left t.right (list_or_root (carried_of r.runs t)) r.entries old new n

-- the place is that of units which become held: lost where they cannot stand, else in the list which they are of
abbrev pub PlacesEntry : ReceivedValue → List DocList → List DocList → Entry → Place → Type 0
PlacesEntry r old new t Waits = ⊥
PlacesEntry r old new t Lost = (can_stand r t ≡ false) × (new ≡ old)
PlacesEntry r old new t (In n) = (can_stand r t ≡ true) × NumbersEntry r old new t n
