-- Which fields are read again from what V2 writes of them: those in range (the limits are own).
use Rattle.std.specs.Prelude.{ℕ, ◌+◌, ◌^◌, ◌<◌, ◌≤◌, length, IsTrue, IsUtf8}
use Rattle.yd_any.specs.Valid.{is_valid_any, is_valid_json}
use Rattle.yd_fields.specs.Field.{Field, FieldType, FieldValue}
use Rattle.yd_fields.specs.Field as field
use Rattle.yd_ids.specs.Id.{IsId}
use Rattle.yd_parts.specs.AnyBytes.{IsWritable}

-- a range begins behind the one before it, has a unit, and ends below 2^53
pub record IsRangeBehind (before clock len : ℕ) : Type 0 where
  pub behind : before ≤ clock
  pub some : 1 ≤ len
  pub in_range : clock + len < 2 ^ 53

-- numbers are below 2^53, texts are UTF-8, and values can be written
abbrev pub CanBeSpelled : (t : FieldType) → FieldValue t → Type 0
CanBeSpelled field.info v = Unit {0}
CanBeSpelled field.client v = v < 2 ^ 53
CanBeSpelled field.left id = IsId id
CanBeSpelled field.right id = IsId id
CanBeSpelled field.flag v = v < 2
CanBeSpelled field.string text = IsUtf8 text
CanBeSpelled field.key text = IsUtf8 text
CanBeSpelled field.kind v = v < 2 ^ 53
CanBeSpelled field.len v = v < 2 ^ 53
CanBeSpelled field.any t = IsTrue (is_valid_any t) × IsWritable t
CanBeSpelled field.blob bytes = length bytes < 2 ^ 53
CanBeSpelled field.json t = IsTrue (is_valid_json t) × IsWritable t
CanBeSpelled field.number v = v < 2 ^ 53
CanBeSpelled (field.range before) r = IsRangeBehind before r.0 r.1

-- the same of a field
abbrev pub V2Spells : Field → Type 0
V2Spells f = CanBeSpelled f.0 f.1
