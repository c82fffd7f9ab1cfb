-- Parts: the bytes, numbers, texts and byte strings of lib0, each with a place of its own (lib0, decoding).
use Rattle.std.specs.Prelude.{ℕ, ◌+◌, ◌-◌, List, length, Result, Ok, Err}
use Rattle.yd_num.specs.Number.{byte_at, unsigned_at}
use Rattle.yd_num.specs.Reading.{Cause as NumCause}
use Rattle.yd_num.specs.Signed.{signed_at}
use Rattle.yd_num.specs.Text.{bytes_at, blob_at, text_at}
use Rattle.yd_num.specs.declared.signed.Signed.{Signed}
use Rattle.yd_parts.specs.Fault.{Fault, of_number}
use Rattle.yd_parts.specs.Plan.{Plan}
use Rattle.yd_parts.specs.declared.fault.Column.{Column}
use Rattle.yd_parts.specs.declared.fault.Spot.{Spot}

-- the types of parts; raw bytes are so many
pub data Part : Type 0 where
  byte : Part
  unsigned : Part
  signed : Part
  text : Part
  blob : Part
  raw : ℕ → Part

-- what a part of each type holds
abbrev pub PartValue : Part → Type 0
PartValue byte = ℕ
PartValue unsigned = ℕ
PartValue signed = Signed
PartValue text = List ℕ
PartValue blob = List ℕ
PartValue (raw count) = List ℕ

-- a plan of reading parts
abbrev pub PartPlan : Type 0 → Type 0
PartPlan X = Plan PartValue X

-- ---- reading

-- bytes that are left to read: in which column their places count, the place of the first of them, and that of the part before
pub record Unread : Type 0 where
  pub column : Column
  pub last : ℕ
  pub place : ℕ
  pub bytes : List ℕ

-- the place of the first byte that is left
abbrev pub here : Unread → Spot
here left = record { column = left.column; at = left.place }

-- the place of the part that was read last
abbrev pub last_spot : Unread → Spot
last_spot left = record { column = left.column; at = left.last }

-- all of these bytes are left
abbrev pub all_of : Column → List ℕ → Unread
all_of column bytes = record { column = column; last = 0; place = 0; bytes = bytes }

-- only these of them are left
abbrev pub behind : Unread → List ℕ → Unread
behind left rest = record { column = left.column; last = left.place; place = (left.place + length left.bytes) - length rest; bytes = rest }

-- what reading at the front gives, with places
abbrev pub placed : {X : Type 0} → Unread → Result (X × List ℕ) NumCause → Result (X × Unread) Fault
placed left (Ok read) = Ok (read.0, behind left read.1)
placed left (Err cause) = Err (record { cause = of_number cause; spot = here left })

-- the part of a type at the front of what is left
abbrev pub part_at : (t : Part) → Unread → Result (PartValue t × Unread) Fault
part_at byte left = placed left (byte_at left.bytes)
part_at unsigned left = placed left (unsigned_at left.bytes)
part_at signed left = placed left (signed_at left.bytes)
part_at text left = placed left (text_at left.bytes)
part_at blob left = placed left (blob_at left.bytes)
part_at (raw count) left = placed left (bytes_at count left.bytes)
