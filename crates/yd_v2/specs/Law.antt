-- The laws of fields in V2.
use Rattle.std.specs.Prelude.{ℕ, ◌≤◌, List}
use Rattle.yd_fields.specs.Again.{ComeBack}
use Rattle.yd_fields.specs.UpdatePlan.{structs_in}
use Rattle.yd_ops.specs.Value.{UpdateValue}
use Rattle.yd_parts.specs.Exact.{ReadsExactly}
use Rattle.yd_v2.specs.Grammar.{FailsField, FillsV2, StandsField, StandsForV2}
use Rattle.yd_v2.specs.Reading.{v2_at, v2_spot}
use Rattle.yd_v2.specs.Spelled.{V2Spells}
use Rattle.yd_v2.specs.Writing.{FitsFile, no_fields, v2_bytes, v2_put}

-- what V2 reads of a field is what stands there, and it fails just where none does
abbrev pub FieldsAreRead : Type 0
FieldsAreRead = ReadsExactly v2_at v2_spot StandsField FailsField

-- fields that were written are read as they were: what a plan makes of them stands in the file of their columns and their rest,
-- and nothing else, where the columns have lengths that are read
abbrev pub FieldsComeBackV2 : Type 0 → Type 0
FieldsComeBackV2 X = ComeBack {X = X} v2_put V2Spells FitsFile v2_bytes no_fields FillsV2

-- a file stands for no update that has more than 2^22 structs in all its blocks together (own)
abbrev pub FilesAreLimited : Type 0
FilesAreLimited = (bytes : List ℕ) (u : UpdateValue) → StandsForV2 bytes u → structs_in u.blocks ≤ 4194304
