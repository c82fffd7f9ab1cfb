-- Update format V1: each field in parts, one after another (Yjs 13, UpdateEncoderV1 and UpdateDecoderV1).
use Rattle.std.specs.Prelude.{ℕ, List, [], ◌∷◌, Result, Ok, Err, None}
use Rattle.yd_parts.specs.AnyPlan.{any_plan}
use Rattle.yd_parts.specs.Fault.{Fault}
use Rattle.yd_fields.specs.Again.{FileReading, whole_by}
use Rattle.yd_fields.specs.Field.{FieldPlan, FieldType, FieldValue}
use Rattle.yd_fields.specs.Field as field
use Rattle.yd_fields.specs.JsonPlan.{value_at}
use Rattle.yd_reading.specs.Judged.{flag_at, range_at}
use Rattle.yd_parts.specs.Part.{PartPlan, Unread, all_of, here, last_spot, part_at}
use Rattle.yd_parts.specs.Part as part
use Rattle.yd_parts.specs.Plan.{give, want, of_made, and_then, read_by}
use Rattle.yd_fields.specs.UpdatePlan.{update_plan, vector_plan}
use Rattle.yd_parts.specs.declared.fault.Cause.TheVariants as causes
use Rattle.yd_parts.specs.declared.fault.Column.TheVariants.{Whole}
use Rattle.yd_parts.specs.declared.fault.Spot.{Spot}
use Rattle.yd_ids.specs.declared.id.Client.{Client}
use Rattle.yd_ops.specs.Value.{UpdateValue}

-- ---- fields

-- an id: its client, and its clock
unfoldable pub id_plan : PartPlan (FieldValue field.left)
id_plan = want part.unsigned (λ client spot. want part.unsigned (λ clock at. give (record { client = record { 0 = client }; clock = clock })))

-- a parent's flag, which is 0 or 1
unfoldable pub flag_plan : PartPlan ℕ
flag_plan = want part.unsigned (λ flag spot. of_made (flag_at spot flag))

-- a range: its clock, and its length, which end at a clock
unfoldable pub range_plan : PartPlan (ℕ × ℕ)
range_plan = want part.unsigned (λ clock spot. want part.unsigned (λ len at. of_made (range_at spot clock len)))

-- a JSON value: a text of JSON
unfoldable pub json_text_plan : PartPlan (FieldValue field.json)
json_text_plan = want part.text (λ text spot. of_made (value_at spot text))

-- the parts of a field of each type
abbrev pub v1_plan : (t : FieldType) → PartPlan (FieldValue t)
v1_plan field.info = want part.byte (λ b spot. give b)
v1_plan field.client = want part.unsigned (λ v spot. give v)
v1_plan field.left = id_plan
v1_plan field.right = id_plan
v1_plan field.flag = flag_plan
v1_plan field.string = want part.text (λ text spot. give text)
v1_plan field.key = want part.text (λ text spot. give text)
v1_plan field.kind = want part.unsigned (λ v spot. give v)
v1_plan field.len = want part.unsigned (λ v spot. give v)
v1_plan field.any = any_plan 100
v1_plan field.blob = want part.blob (λ bytes spot. give bytes)
v1_plan field.json = json_text_plan
v1_plan field.number = want part.unsigned (λ v spot. give v)
v1_plan (field.range before) = range_plan

-- ---- reading

-- what is left of a file in V1, and the spot of the field that was read last
pub record V1Left : Type 0 where
  pub left : Unread
  pub spot : Spot

-- a whole file
abbrev pub v1_start : List ℕ → V1Left
v1_start bytes = record { left = all_of Whole bytes; spot = record { column = Whole; at = 0 } }

-- the field of a type at the front of what is left
unfoldable pub v1_at : (t : FieldType) → V1Left → Result (FieldValue t × V1Left) Fault
v1_at t now = and_then (read_by part_at last_spot (v1_plan t) now.left) (λ read. Ok (read.0, record { left = read.1; spot = here now.left }))

-- the spot of the field that was read last
abbrev pub v1_spot : V1Left → Spot
v1_spot now = now.spot

-- every reader is sound: what it reads fits its type, whatever is left
abbrev pub IsSoundV1 : V1Left → Type 0
IsSoundV1 now = Unit {0}

-- nothing may follow the last field
abbrev pub nothing_left : Spot → List ℕ → Result (Unit {0}) Fault
nothing_left spot [] = Ok tt
nothing_left spot (b ∷ bytes) = Err (record { cause = causes.Trailing; spot = spot })

-- the end of the file, or bytes behind the last field
abbrev pub v1_end : V1Left → Result (Unit {0}) Fault
v1_end now = nothing_left (here now.left) now.left.bytes

-- how V1 reads a file: its fields from the first byte on
abbrev pub v1_files : FileReading V1Left
v1_files = record { start = λ bytes. Ok (v1_start bytes); field_at = v1_at; spot_of = v1_spot; end_at = v1_end }

-- what the fields of a file give by a plan, where they fill it, or the first fault
unfoldable pub v1_whole : {X : Type 0} → FieldPlan X → List ℕ → Result X Fault
v1_whole plan bytes = whole_by v1_files plan bytes

-- the update that a file stands for, or the first fault
abbrev pub v1_reading : List ℕ → Result UpdateValue Fault
v1_reading bytes = v1_whole (update_plan None) bytes

-- the state vector that a file stands for, or the first fault
abbrev pub vector_reading : List ℕ → Result (List (Client × ℕ)) Fault
vector_reading bytes = v1_whole vector_plan bytes
