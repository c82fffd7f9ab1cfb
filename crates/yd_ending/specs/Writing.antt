-- What writing leaves on a sink that tells (own).
use Rattle.std.specs.Prelude.{◌≡◌, ◌<◌, ◌⊎◌, ℕ, List, ◌++◌, length, take, Option, Some, None, Result, Ok, Err}
use Rattle.yd_world.specs.Faults.{Rose}
use Rattle.yd_world.specs.declared.fault.Outage.{Outage}
use Rattle.yd_world.specs.declared.fault.Outage.TheVariants.{NoMemory, Failed}

-- all of the bytes were taken
abbrev pub TakesAll : Option (List ℕ) → Option (List ℕ) → List ℕ → Type 0
TakesAll None new bytes = Unit {0}
TakesAll (Some old) None bytes = ⊥
TakesAll (Some old) (Some new) bytes = new ≡ old ++ bytes

-- a front of the bytes was taken, which may be none of them, and not all
abbrev pub TakesPart : Option (List ℕ) → Option (List ℕ) → List ℕ → Type 0
TakesPart None new bytes = Unit {0}
TakesPart (Some old) None bytes = ⊥
TakesPart (Some old) (Some new) bytes = (count : ℕ) × (count < length bytes) × (new ≡ old ++ take count bytes)

-- all of the bytes were taken, or a part
abbrev pub TakesFront : Option (List ℕ) → Option (List ℕ) → List ℕ → Type 0
TakesFront old new bytes = TakesAll old new bytes ⊎ TakesPart old new bytes

-- the count of faults rose where writing failed, and else it is as it was
abbrev pub CountsFault : {X : Type 0} → ℕ → ℕ → Result X Outage → Type 0
CountsFault before now (Ok x) = now ≡ before
CountsFault before now (Err NoMemory) = now ≡ before
CountsFault before now (Err Failed) = Rose before now
