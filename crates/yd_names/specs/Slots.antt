-- Places in slots, each of which knows its last place (own).
use Rattle.std.specs.Prelude.{◌≡◌, ◌<◌, ◌≤◌, ℕ, suc, ◌-◌, ◌*◌, ◌/◌, ◌%◌, List, Option, Some, None, slice_get, map, take, length, nat_eq, if◌then◌else◌}
use Rattle.yd_names.specs.Codes.{last_place}

-- a place as a number, with zero for none: it and all before it are below that number
abbrev pub bound_of : Option ℕ → ℕ
bound_of None = 0
bound_of (Some n) = suc n

-- what stands in place of the code of a name that a bisection finds; it is no code of a name
abbrev pub crowded : ℕ
crowded = 4294967295

-- the slot of a code: its product with a number whose multiples lie evenly, as a part of all slots but the last, which is that of `crowded`
abbrev pub slot_of : ℕ → ℕ → ℕ
slot_of size code = if nat_eq code crowded then size - 1 else code * 2654435769 % 4294967296 * (size - 1) / 4294967296

-- the last place of each slot is known, and of each place the last one before it in the same slot
pub record AreSlots (slots heads before : List ℕ) : Type 0 where
  pub each : length before ≡ length slots
  pub latest : (slot : ℕ) → slot < length heads → slice_get heads slot ≡ Some (bound_of (last_place slot slots))
  pub earlier : (n slot : ℕ) → slice_get slots n ≡ Some slot → slice_get before n ≡ Some (bound_of (last_place slot (take n slots)))

-- codes are found in the slots of each, of which there are as many or more
pub record AreFound (codes heads before : List ℕ) : Type 0 where
  pub slots : AreSlots (map (slot_of (length heads)) codes) heads before
  pub room : length codes ≤ length heads

-- a code is looked for below a place, from the last one on that has its slot
pub record IsSearched (codes before : List ℕ) (code from : ℕ) : Type 0 where
  pub size : ℕ
  pub top : ℕ
  pub each : length before ≡ length codes
  pub earlier : (n slot : ℕ) → slice_get (map (slot_of size) codes) n ≡ Some slot → slice_get before n ≡ Some (bound_of (last_place slot (take n (map (slot_of size) codes))))
  pub begins : from ≡ bound_of (last_place (slot_of size code) (take top (map (slot_of size) codes)))
