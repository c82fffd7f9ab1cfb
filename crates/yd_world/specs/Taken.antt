-- What a sink tells: the bytes that it took (own).
use Rattle.std.specs.Prelude.{◌≡◌, ℕ, ◌<◌, List, ◌++◌, length, take, Option, Some, None, Result, Ok, Err}
use Rattle.yd_world.specs.declared.fault.Outage.{Outage}
use Rattle.yd_world.specs.declared.fault.Outage.TheVariants.{NoMemory, Failed}
use Rattle.yd_world.specs.Faults.{Rose}

-- Ok took so many of the piece's bytes, and an error took none
abbrev pub Takes : {E : Type 0} → Option (List ℕ) → Option (List ℕ) → List ℕ → Result ℕ E → Type 0
Takes None new piece result = Unit {0}
Takes (Some old) None piece result = ⊥
Takes (Some old) (Some new) piece (Ok count) = new ≡ old ++ take count piece
Takes (Some old) (Some new) piece (Err e) = new ≡ old

-- nothing taken of a piece that is not empty counts as a fault, and something taken counts as none
abbrev pub CountsNone : {E : Type 0} → ℕ → ℕ → List ℕ → Result ℕ E → Type 0
CountsNone before now piece (Ok count) = (count ≡ 0 → 0 < length piece → Rose before now) × (0 < count → now ≡ before)
CountsNone before now piece (Err e) = Unit {0}

-- it took some of a piece that is not empty, or found no memory
abbrev pub TakesSome : List ℕ → Result ℕ Outage → Type 0
TakesSome piece (Ok count) = 0 < length piece → 0 < count
TakesSome piece (Err NoMemory) = Unit {0}
TakesSome piece (Err Failed) = ⊥
