-- What the code answers for a field at the front of some bytes, in the words of reading it.
use Rattle.std.specs.Prelude.{◌≡◌, ℕ, ◌≤◌, List, length, drop, Result, Ok, Err}
use Rattle.yd_num.specs.declared.fault.NumFault.{NumFault}
use Rattle.yd_num.specs.Fault.{cause_of, place_of}
use Rattle.yd_num.specs.Reading.{Cause}

-- Ok has the value that reading gives, and the length that it leaves out; an error has its cause, and the place
abbrev pub StandsAtFront : {X Y : Type 0} → (X → Y) → List ℕ → ℕ → Result (X × ℕ) NumFault → Result (Y × List ℕ) Cause → Type 0
StandsAtFront value bytes place (Ok field) reading = (reading ≡ Ok (value field.0, drop field.1 bytes)) × (field.1 ≤ length bytes)
StandsAtFront value bytes place (Err fault) reading = (reading ≡ Err (cause_of fault)) × (place_of fault ≡ place)
