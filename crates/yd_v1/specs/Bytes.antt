-- Update format V1: the bytes of each field, one after another (Yjs 13, UpdateEncoderV1).
use Rattle.std.specs.Prelude.{◌≡◌, ℕ, List, [], ◌∷◌, ◌++◌, IsOkAnd}
use Rattle.yd_any.specs.Printed.{printed}
use Rattle.yd_ids.specs.declared.id.Id.{Id}
use Rattle.yd_num.specs.Writing.{shortest, shortest_blob}
use Rattle.yd_parts.specs.AnyBytes.{bytes_of_any}
use Rattle.yd_fields.specs.Field.{Field, FieldType, FieldValue}
use Rattle.yd_fields.specs.Field as field
use Rattle.yd_parts.specs.Part.{Unread, last_spot, part_at}
use Rattle.yd_parts.specs.Plan.{read_by}
use Rattle.yd_v1.specs.Reading.{v1_plan}

-- an id: its client, and its clock
abbrev pub bytes_of_id : Id → List ℕ
bytes_of_id id = shortest id.client.0 ++ shortest id.clock

-- what a field of each type is written as
abbrev pub bytes_of_value : (t : FieldType) → FieldValue t → List ℕ
bytes_of_value field.info v = v ∷ []
bytes_of_value field.client v = shortest v
bytes_of_value field.left id = bytes_of_id id
bytes_of_value field.right id = bytes_of_id id
bytes_of_value field.flag v = shortest v
bytes_of_value field.string text = shortest_blob text
bytes_of_value field.key text = shortest_blob text
bytes_of_value field.kind v = shortest v
bytes_of_value field.len v = shortest v
bytes_of_value field.any t = bytes_of_any t
bytes_of_value field.blob bytes = shortest_blob bytes
bytes_of_value field.json t = shortest_blob (printed t)
bytes_of_value field.number v = shortest v
bytes_of_value (field.range before) r = shortest r.0 ++ shortest r.1

-- a field
abbrev pub v1_bytes : Field → List ℕ
v1_bytes f = bytes_of_value f.0 f.1

-- fields, one after another
abbrev pub v1_bytes_of_all : List Field → List ℕ
v1_bytes_of_all [] = []
v1_bytes_of_all (f ∷ fs) = v1_bytes f ++ v1_bytes_of_all fs

-- what is written of the field is read as that field, whatever follows
abbrev pub V1Spells : Field → Type 0
V1Spells f = (s : Unread) (rest : List ℕ) → s.bytes ≡ v1_bytes f ++ rest →
    IsOkAnd (read_by part_at last_spot (v1_plan f.0) s) (λ read. (read.0 ≡ f.1) × (read.1.bytes ≡ rest))
