-- What a cursor has before it, and what one reading call does to it.
use Rattle.std.specs.Prelude.{◌≡◌, ℕ, ◌+◌, List, length, Result, Ok, Err}
use Rattle.yd_num.specs.declared.fault.NumFault.{NumFault}
use Rattle.yd_num.specs.Fault.{cause_of, place_of}
use Rattle.yd_num.specs.Reading.{Cause}

-- the bytes that are left to read, and the place of the first of them
pub record Remainder : Type 0 where
  pub place : ℕ
  pub unread : List ℕ

-- all of these bytes are left
abbrev pub all_of : List ℕ → Remainder
all_of bytes = record { place = 0; unread = bytes }

-- Ok gives the value that the reading gives and stands behind it; an error has the reading's cause
-- and the place where the field begins, and moves nothing
abbrev pub Reads : {X Y : Type 0} → (X → Y) → Remainder → Remainder → Result X NumFault → Result (Y × List ℕ) Cause → Type 0
Reads value old new (Ok x) reading = (reading ≡ Ok (value x, new.unread)) × (new.place + length new.unread ≡ old.place + length old.unread)
Reads value old new (Err fault) reading = (reading ≡ Err (cause_of fault)) × (place_of fault ≡ old.place) × (new ≡ old)
