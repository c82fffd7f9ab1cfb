-- Counts of faults: a call of the outside fails only where its object's count rose.
use Rattle.std.specs.Prelude.{◌≡◌, ℕ, ◌-◌, ◌^◌, ◌<◌, ◌≤◌, ◌⊎◌, Result, Ok, Err}
use Rattle.yd_world.specs.declared.fault.Outage.{Outage}
use Rattle.yd_world.specs.declared.fault.Outage.TheVariants.{NoMemory, Failed}

-- the count rose, or the call found it at its greatest, where it stays
abbrev pub Rose : ℕ → ℕ → Type 0
Rose before now = (before < now) ⊎ (2 ^ 64 - 1 ≤ before)

-- the count did not fall, and an error comes only where it rose
abbrev pub HasCause : {X E : Type 0} → ℕ → ℕ → Result X E → Type 0
HasCause before now (Ok x) = before ≤ now
HasCause before now (Err e) = (before ≤ now) × Rose before now

-- the same where want of memory is another error, which raises nothing
abbrev pub HasOutage : {X : Type 0} → ℕ → ℕ → Result X Outage → Type 0
HasOutage before now (Ok x) = before ≤ now
HasOutage before now (Err NoMemory) = now ≡ before
HasOutage before now (Err Failed) = (before ≤ now) × Rose before now
