-- What is taken of an update in V1 while it is read, and what a writer of V1 takes (own).
use Rattle.std.specs.Prelude.{◌≡◌, ℕ, List, [], ◌++◌, Ok}
use Rattle.yd_ids.specs.declared.id.Span.{Span}
use Rattle.yd_ops.specs.Valid.{IsValidUpdate}
use Rattle.yd_ops.specs.Value.{UpdateValue}
use Rattle.yd_fields.specs.Writes.{Writes}
use Rattle.yd_reading.specs.Taking.{Section, TakesMore, fields_of_sections, sections_of}
use Rattle.yd_v1.specs.Bytes.{V1Spells, v1_bytes}
use Rattle.yd_v1.specs.Reading.{v1_reading}

-- the bytes stand for a valid update: its sections were taken, and these are its deletions
pub record TakesStructsV1 (bytes : List ℕ) (deletes : List Span) (Took TookNow : List Section → Type 0) : Type 0 where
  pub update : UpdateValue
  pub is_read : v1_reading bytes ≡ Ok update
  pub valid : IsValidUpdate update
  pub deletes_are : deletes ≡ update.deletes
  pub taken : TakesMore Took TookNow (sections_of update)

-- the bytes are those of the fields of the sections, and V1 spells each of these
abbrev pub WroteSections : List ℕ → List Section → Type 0
WroteSections bytes sections = Writes (λ f old. old ++ v1_bytes f) V1Spells (fields_of_sections sections) [] bytes
