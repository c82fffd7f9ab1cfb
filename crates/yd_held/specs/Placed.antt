-- The place of held units, by the places of what they stand on (own).
use Rattle.std.specs.Prelude.{◌≡◌, ℕ, Bool, true, false, not, ◌&&◌, List, Option, Some, None, slice_get, is_some, IfSome}
use Rattle.yd_words.specs.Each.{Each}
use Rattle.yd_ids.specs.declared.id.Id.{Id}
use Rattle.yd_ops.specs.declared.lists.List.{List as DocList}
use Rattle.yd_meaning.specs.Held.{item_carried}
use Rattle.yd_meaning.specs.Order.{list_or_root}
use Rattle.yd_entries.specs.declared.entry.Entry.{Entry}
use Rattle.yd_entries.specs.declared.place.Place.{Place}
use Rattle.yd_entries.specs.declared.place.Place.TheVariants.{Waits, Lost, In}
use Rattle.yd_entries.specs.Entries.{carried_of}
use Rattle.yd_entries.specs.Taking.{is_covered}
use Rattle.yd_received.specs.Received.{ReceivedValue}
use Rattle.yd_held.specs.Numbered.{number_of}

-- whether there is no id, or one that is in a list
abbrev pub is_none_or_listed : List Entry → Option Id → Bool
is_none_or_listed taken None = true
is_none_or_listed taken (Some x) = is_some (number_of taken x)

-- whether units that are held stand: they are not gone, and their origins and the item of the list that they carry are in lists
abbrev pub can_stand : ReceivedValue → Entry → Bool
can_stand r t =
    not t.is_gone && (is_none_or_listed r.entries t.left && (is_none_or_listed r.entries t.right
    && is_none_or_listed r.entries (item_carried (carried_of r.runs t))))

-- the origins of units, and the item of the list that they carry, were taken
pub record AreOriginsCovered (r : ReceivedValue) (t : Entry) : Type 0 where
  pub left : IfSome t.left (λ x. is_covered r.entries x ≡ true)
  pub right : IfSome t.right (λ x. is_covered r.entries x ≡ true)
  pub item : IfSome (item_carried (carried_of r.runs t)) (λ x. is_covered r.entries x ≡ true)

-- the number is that of the left origin's list, else of the right origin's, else of the name that is carried
abbrev pub HasNumber : Option Id → Option Id → DocList → List Entry → List DocList → ℕ → Type 0
HasNumber (Some y) right name taken names n = number_of taken y ≡ Some n
HasNumber None (Some y) name taken names n = number_of taken y ≡ Some n
HasNumber None None name taken names n = slice_get names n ≡ Some name

-- units wait, or are lost where they cannot stand, or are in the list that their origins give
abbrev pub IsPlaced : ReceivedValue → List DocList → Entry → Place → Type 0
IsPlaced r names t Waits = Unit {0}
IsPlaced r names t Lost = can_stand r t ≡ false
IsPlaced r names t (In n) = (can_stand r t ≡ true) × HasNumber t.left t.right (list_or_root (carried_of r.runs t)) r.entries names n

-- so is the place of each entry
abbrev pub ArePlaced : ReceivedValue → List DocList → Type 0
ArePlaced r names = Each (λ t. IsPlaced r names t t.place) r.entries
