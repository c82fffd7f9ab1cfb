-- The laws of fields in V1.
use Rattle.std.specs.Prelude.{◌++◌, []}
use Rattle.yd_fields.specs.Again.{ComeBack}
use Rattle.yd_parts.specs.Exact.{ReadsExactly}
use Rattle.yd_v1.specs.Bytes.{V1Spells, v1_bytes}
use Rattle.yd_v1.specs.Grammar.{FailsField, FillsV1, StandsField}
use Rattle.yd_v1.specs.Reading.{v1_at, v1_spot}

-- what V1 reads of a field is what stands there, and it fails just where none does
abbrev pub FieldsAreRead : Type 0
FieldsAreRead = ReadsExactly v1_at v1_spot StandsField FailsField

-- fields that were written are read as they were: what a plan makes of them stands in the file of their bytes, and nothing else; any bytes are whole
abbrev pub FieldsComeBackV1 : Type 0 → Type 0
FieldsComeBackV1 X = ComeBack {X = X} (λ f bytes. bytes ++ v1_bytes f) V1Spells (λ bytes. Unit {0}) (λ bytes. bytes) [] FillsV1
