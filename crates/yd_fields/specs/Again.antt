-- What it is that fields which were written are read again, whatever the format.
use Rattle.std.specs.Prelude.{◌≡◌, ℕ, List, [], ◌∷◌, Result, Ok}
use Rattle.yd_words.specs.Each.{Each}
use Rattle.yd_parts.specs.Fault.{Fault}
use Rattle.yd_parts.specs.Plan.{Expects, and_then, read_by}
use Rattle.yd_parts.specs.declared.fault.Spot.{Spot}
use Rattle.yd_fields.specs.Field.{Field, FieldPlan, FieldType, FieldValue}
use Rattle.yd_fields.specs.Writes.{with_fields}

-- ---- reading a file

-- how a format reads: what stands before the first field, the field of a type, the spot of the field that was read last, and what follows the last field
pub record FileReading (S : Type 0) : Type 0 where
  pub start : List ℕ → Result S Fault
  pub field_at : (t : FieldType) → S → Result (FieldValue t × S) Fault
  pub spot_of : S → Spot
  pub end_at : S → Result (Unit {0}) Fault

-- what the fields of a file give by a plan, where they fill it, or the first fault
abbrev pub whole_by : {S X : Type 0} → FileReading S → FieldPlan X → List ℕ → Result X Fault
whole_by reading plan bytes = and_then (reading.start bytes) (λ begin. and_then (read_by reading.field_at reading.spot_of plan begin) (λ read. and_then (reading.end_at read.1) (λ end. Ok read.0)))

-- these fields are read, one after another, and there the file ends
abbrev pub AreRead : {S : Type 0} → FileReading S → List Field → S → Type 0
AreRead reading [] now = reading.end_at now ≡ Ok tt
AreRead {S} reading (f ∷ fs) now = (next : S) × (reading.field_at f.0 now ≡ Ok (f.1, next)) × AreRead reading fs next

-- the file is read as these fields, and nothing else
pub record IsReadAs {S : Type 0} (reading : FileReading S) (bytes : List ℕ) (fields : List Field) : Type 0 where
  pub begin : S
  pub starts : reading.start bytes ≡ Ok begin
  pub read : AreRead reading fields begin

-- ---- reading what was written

-- fields that the writer calls spelled are read again by the reader of its format, one after another and nothing else, where it calls what is written of them whole
abbrev pub AreReadAgain : {S W : Type 0} → FileReading S → (Field → W → W) → (Field → Type 0) → (W → Type 0) → (W → List ℕ) → W → Type 0
AreReadAgain reading put IsSpelled IsWhole bytes_of none = (fields : List Field) → Each IsSpelled fields → IsWhole (with_fields put fields none) → IsReadAs reading (bytes_of (with_fields put fields none)) fields

-- so what a plan makes of the fields is what the file of their bytes is
abbrev pub ComeBack : {W X : Type 0} → (Field → W → W) → (Field → Type 0) → (W → Type 0) → (W → List ℕ) → W → (FieldPlan X → List ℕ → X → Type 0) → Type 0
ComeBack {W} {X} put IsSpelled IsWhole bytes_of none Fills = (fields : List Field) (plan : FieldPlan X) (x : X) → Each IsSpelled fields → IsWhole (with_fields put fields none) →
    Expects plan fields x → Fills plan (bytes_of (with_fields put fields none)) x
