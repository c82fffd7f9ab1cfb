-- What it is to read whole files exactly, whatever the format.
use Rattle.std.specs.Prelude.{◌≡◌, ◌↔◌, ℕ, List, Result, Ok, Err}
use Rattle.yd_parts.specs.Fault.{Fault}

-- a file stands for what is read of it, has the first fault that is read, and never both
pub record FilesAreRead {Y : Type 0} (reading : List ℕ → Result Y Fault) (Fills : List ℕ → Y → Type 0) (Fails : List ℕ → Fault → Type 0) : Type 0 where
  pub values : (bytes : List ℕ) (y : Y) → (reading bytes ≡ Ok y) ↔ Fills bytes y
  pub faults : (bytes : List ℕ) (fault : Fault) → (reading bytes ≡ Err fault) ↔ Fails bytes fault

-- no file stands for two values, none has two first faults, and none has both a value and a fault
pub record FilesAreOne {Y : Type 0} (Fills : List ℕ → Y → Type 0) (Fails : List ℕ → Fault → Type 0) : Type 0 where
  pub values : (bytes : List ℕ) (y other : Y) → Fills bytes y → Fills bytes other → y ≡ other
  pub faults : (bytes : List ℕ) (fault other : Fault) → Fails bytes fault → Fails bytes other → fault ≡ other
  pub apart : (bytes : List ℕ) (y : Y) (fault : Fault) → Fills bytes y → Fails bytes fault → ⊥
