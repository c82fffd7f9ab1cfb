-- The cut of an update by a vector, from bytes to bytes (Yjs 13, diffUpdate; that pairs stay whole is own).
use Rattle.std.specs.Prelude.{◌≡◌, ℕ, List, Ok}
use Rattle.yd_ops.specs.Valid.{IsValidUpdate}
use Rattle.yd_ops.specs.Value.{UpdateValue}
use Rattle.yd_grouping.specs.Merged.{cut_update}
use Rattle.yd_fields.specs.UpdateFields.{fields_of_update}
use Rattle.yd_v1.specs.Bytes.{v1_bytes_of_all}
use Rattle.yd_v1.specs.Grammar.{StandsForV1}
use Rattle.yd_v1.specs.Reading.{v1_reading}

-- the bytes stand for a valid update, and what is written is its cut by the vector, which is read again
pub record CutsV1 (bytes : List ℕ) (vector : ℕ → ℕ) (written : List ℕ) : Type 0 where
  pub update : UpdateValue
  pub read : v1_reading bytes ≡ Ok update
  pub valid : IsValidUpdate update
  pub written_is : written ≡ v1_bytes_of_all (fields_of_update (cut_update update vector))
  pub again : StandsForV1 written (cut_update update vector)
