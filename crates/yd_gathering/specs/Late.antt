-- Updates that are put off, as bytes in V1 (own).
use Rattle.std.specs.Prelude.{◌≡◌, ◌≤◌, ℕ, List, [], ◌∷◌, ◌++◌, length, map, slice_range, Result, Ok, Err}
use Rattle.yd_words.specs.Each.{Each}
use Rattle.yd_ops.specs.Valid.{IsValidUpdate}
use Rattle.yd_ops.specs.Value.{UpdateValue}
use Rattle.yd_parts.specs.Fault.{Fault}
use Rattle.yd_parts.specs.declared.fault.ReadError.{ReadError}
use Rattle.yd_parts.specs.declared.fault.ReadError.TheVariants as errors
use Rattle.yd_v1.specs.Reading.{v1_reading}
use Rattle.yd_gathering.specs.declared.late.Late.{Late}
use Rattle.yd_gathering.specs.declared.late.Place.{Place}

-- the bytes at a place
abbrev pub body_at : List ℕ → Place → List ℕ
body_at bytes place = slice_range bytes place.from place.to

-- what was read, and an update that says nothing where there is a fault
abbrev pub update_or_none : Result UpdateValue Fault → UpdateValue
update_or_none (Ok u) = u
update_or_none (Err fault) = record { blocks = []; deletes = [] }

-- the update that the bytes at a place stand for
unfoldable pub update_at : List ℕ → Place → UpdateValue
update_at bytes place = update_or_none (v1_reading (body_at bytes place))

-- the place is within the bytes, and they stand there for a valid update
pub record IsBodyAt (bytes : List ℕ) (place : Place) : Type 0 where
  pub within : (place.from ≤ place.to) × (place.to ≤ length bytes)
  pub read : v1_reading (body_at bytes place) ≡ Ok (update_at bytes place)
  pub valid : IsValidUpdate (update_at bytes place)

-- so it is at each place
abbrev pub AreBodies : Late → Type 0
AreBodies late = Each (IsBodyAt late.bytes.items) late.places.items

-- the updates that are put off, in the order in which they came
abbrev pub updates_late : Late → List UpdateValue
updates_late late = map (update_at late.bytes.items) late.places.items

-- these updates are put off
pub record HasLate (late : Late) (taken : List UpdateValue) : Type 0 where
  pub bodies : AreBodies late
  pub are : taken ≡ updates_late late

-- bytes stand behind the others now, and this is their place
pub record KeepsBody (body : List ℕ) (old new : Late) : Type 0 where
  pub place : Place
  pub bytes : new.bytes.items ≡ old.bytes.items ++ body
  pub places : new.places.items ≡ old.places.items ++ place ∷ []
  pub from : place.from ≡ length old.bytes.items
  pub to : place.to ≡ length new.bytes.items

-- the error is that memory was wanted
abbrev pub IsWant : ReadError → Type 0
IsWant errors.NoMemory = Unit {0}
IsWant (errors.Fault cause spot) = ⊥
