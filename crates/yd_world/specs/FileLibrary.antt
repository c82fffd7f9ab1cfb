-- What is known of a library over the system's files (own).
use Rattle.std.specs.Prelude.{ℕ, Bool, false}

-- whether a file is open, and how many faults were counted
pub record FileState : Type 0 where
  pub is_open : Bool
  pub faults : ℕ

-- no file is open, and there was no fault
abbrev pub nothing_open : FileState
nothing_open = record { is_open = false; faults = 0 }
