-- How any-values are written (lib0, writeAny; that whole numbers are never written as floats is own): a tag, and then what it announces.
use Rattle.std.specs.Prelude.{◌≡◌, ℕ, zero, suc, ◌^◌, ◌<◌, ℤ, pos, negsuc, true, false, List, [], ◌∷◌, ◌++◌, length, FitsSigned, IsUtf8, unsigned_abs}
use Rattle.std.specs.Int.{w64, cast_unsigned, to_be_bytes}
use Rattle.yd_any.specs.Tree.{AnyTree, AnyTrees, AnyFields, undefined, null, flag, whole, raw4, raw8, big, str, list, pairs, blob as bytes, no_trees, tree, no_fields, field}
use Rattle.yd_num.specs.Writing.{shortest, shortest_signed, shortest_blob}
use Rattle.yd_num.specs.declared.signed.Signed.{Signed}
use Rattle.yd_ops.specs.Value.{count_of}
use Rattle.yd_parts.specs.AnyPlan.{byte_of_tag}
use Rattle.yd_parts.specs.declared.tag.Tag.TheVariants.{Undefined, Null, Whole, Raw4, Raw8, Big, False, True, Str, Pairs, List as Listed, Blob}

-- ---- bytes

-- a whole number with its sign; zero has none
abbrev pub signed_of : ℤ → Signed
signed_of (pos n) = record { negative = false; size = n }
signed_of (negsuc n) = record { negative = true; size = suc n }

-- how many keys stand in a row
abbrev pub count_of_fields : AnyFields → ℕ
count_of_fields no_fields = zero
count_of_fields (field key t fs) = suc (count_of_fields fs)

abbrev mutual
  -- a value: its tag, and what stands behind it
  pub bytes_of_any : AnyTree → List ℕ
  bytes_of_any undefined = byte_of_tag Undefined ∷ []
  bytes_of_any null = byte_of_tag Null ∷ []
  bytes_of_any (flag false) = byte_of_tag False ∷ []
  bytes_of_any (flag true) = byte_of_tag True ∷ []
  bytes_of_any (whole n) = byte_of_tag Whole ∷ shortest_signed (signed_of n)
  bytes_of_any (raw4 bs) = byte_of_tag Raw4 ∷ bs
  bytes_of_any (raw8 bs) = byte_of_tag Raw8 ∷ bs
  bytes_of_any (big n) = byte_of_tag Big ∷ to_be_bytes w64 (cast_unsigned w64 n)
  bytes_of_any (str text) = byte_of_tag Str ∷ shortest_blob text
  bytes_of_any (list ts) = byte_of_tag Listed ∷ (shortest (count_of ts) ++ bytes_of_trees ts)
  bytes_of_any (pairs fs) = byte_of_tag Pairs ∷ (shortest (count_of_fields fs) ++ bytes_of_fields fs)
  bytes_of_any (bytes bs) = byte_of_tag Blob ∷ shortest_blob bs

  -- values in a row, one after another
  pub bytes_of_trees : AnyTrees → List ℕ
  bytes_of_trees no_trees = []
  bytes_of_trees (tree t ts) = bytes_of_any t ++ bytes_of_trees ts

  -- keys with their values, one after another
  pub bytes_of_fields : AnyFields → List ℕ
  bytes_of_fields no_fields = []
  bytes_of_fields (field key t fs) = (shortest_blob key ++ bytes_of_any t) ++ bytes_of_fields fs

-- ---- what is read as it was written

-- a text of less than 2^53 bytes
abbrev pub IsWritableText : List ℕ → Type 0
IsWritableText text = (length text < 2 ^ 53) × IsUtf8 text

abbrev mutual
  -- numbers, counts and lengths are in range, and texts are UTF-8
  pub IsWritable : AnyTree → Type 0
  IsWritable undefined = Unit {0}
  IsWritable null = Unit {0}
  IsWritable (flag b) = Unit {0}
  IsWritable (whole n) = unsigned_abs n < 2 ^ 53
  IsWritable (raw4 bs) = length bs ≡ 4
  IsWritable (raw8 bs) = length bs ≡ 8
  IsWritable (big n) = FitsSigned w64 n
  IsWritable (str text) = IsWritableText text
  IsWritable (list ts) = (count_of ts < 2 ^ 53) × AreWritable ts
  IsWritable (pairs fs) = (count_of_fields fs < 2 ^ 53) × FieldsAreWritable fs
  IsWritable (bytes bs) = length bs < 2 ^ 53

  -- the same of values in a row
  pub AreWritable : AnyTrees → Type 0
  AreWritable no_trees = Unit {0}
  AreWritable (tree t ts) = IsWritable t × AreWritable ts

  -- the same of keys with their values
  pub FieldsAreWritable : AnyFields → Type 0
  FieldsAreWritable no_fields = Unit {0}
  FieldsAreWritable (field key t fs) = IsWritableText key × IsWritable t × FieldsAreWritable fs
