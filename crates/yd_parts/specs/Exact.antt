-- What it is to read things exactly.
use Rattle.std.specs.Prelude.{◌≡◌, Result, Ok, Err}
use Rattle.yd_parts.specs.Fault.{Fault}
use Rattle.yd_parts.specs.Plan.{Found}
use Rattle.yd_parts.specs.declared.fault.Spot.{Spot}

-- reading things of each type is exact: it gives what stands there, and fails where the thing fails
pub record ReadsExactly {T : Type 0} {V : T → Type 0} {S : Type 0} (at : (t : T) → S → Result (V t × S) Fault) (spot_of : S → Spot)
    (Stands : S → Found V → S → Type 0) (Fails : T → S → Fault → Type 0) : Type 0 where
  pub found : (t : T) (s : S) (v : V t) (next : S) → at t s ≡ Ok (v, next) → Stands s (record { type = t; value = v; spot = spot_of next }) next
  pub only : (t : T) (s : S) (v : V t) (spot : Spot) (next : S) → Stands s (record { type = t; value = v; spot = spot }) next → (at t s ≡ Ok (v, next)) × (spot ≡ spot_of next)
  pub fails : (t : T) (s : S) (fault : Fault) → at t s ≡ Err fault → Fails t s fault
  pub fails_only : (t : T) (s : S) (fault : Fault) → Fails t s fault → at t s ≡ Err fault
