-- When a write to a stream of the system counts as a fault (own).
use Rattle.std.specs.Prelude.{ℕ, Bool, true, ◌&&◌, ◌==◌, nat_lt, List, length, Result, Ok, Err}

-- it gave an error, or took nothing of a piece that is not empty
abbrev pub is_fault : {E : Type 0} → List ℕ → Result ℕ E → Bool
is_fault piece (Ok count) = count == 0 && nat_lt 0 (length piece)
is_fault piece (Err e) = true
