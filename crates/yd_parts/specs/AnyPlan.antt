-- How any-values are read (lib0, readAny; the limits are own): a tag, and then what it announces.
use Rattle.std.specs.Prelude.{ℕ, zero, suc, ◌^◌, ℤ, pos, neg_ℤ, Option, Some, None, true, false, nat_eq, nat_lt, if◌then◌else◌}
use Rattle.std.specs.Int.{w64, cast_signed, from_be_bytes}
use Rattle.yd_any.specs.Tree.{AnyTree, AnyTrees, AnyFields, undefined, null, flag, whole, raw4, raw8, big, str, list, pairs, blob as bytes, no_trees, no_fields, with_last, with_last_field}
use Rattle.yd_num.specs.declared.signed.Signed.{Signed}
use Rattle.yd_parts.specs.Part.{PartPlan, byte, unsigned, signed, text, blob, raw}
use Rattle.yd_parts.specs.Plan.{give, refuse, want, ◌>>=◌, repeated}
use Rattle.yd_parts.specs.declared.fault.Cause.TheVariants.{BadTag, NumberTooLarge, TooDeep}
use Rattle.yd_parts.specs.declared.fault.Spot.{Spot}
use Rattle.yd_parts.specs.declared.tag.Tag.{Tag}
use Rattle.yd_parts.specs.declared.tag.Tag.TheVariants.{Undefined, Null, Whole, Raw4, Raw8, Big, False, True, Str, Pairs, List as Listed, Blob}

-- ---- tags

-- the byte of a tag
abbrev pub byte_of_tag : Tag → ℕ
byte_of_tag Undefined = 127
byte_of_tag Null = 126
byte_of_tag Whole = 125
byte_of_tag Raw4 = 124
byte_of_tag Raw8 = 123
byte_of_tag Big = 122
byte_of_tag False = 121
byte_of_tag True = 120
byte_of_tag Str = 119
byte_of_tag Pairs = 118
byte_of_tag Listed = 117
byte_of_tag Blob = 116

-- the tag of a byte, if it is one
abbrev pub tag_of_byte : ℕ → Option Tag
tag_of_byte b =
    if nat_eq b 127 then Some Undefined
    else if nat_eq b 126 then Some Null
    else if nat_eq b 125 then Some Whole
    else if nat_eq b 124 then Some Raw4
    else if nat_eq b 123 then Some Raw8
    else if nat_eq b 122 then Some Big
    else if nat_eq b 121 then Some False
    else if nat_eq b 120 then Some True
    else if nat_eq b 119 then Some Str
    else if nat_eq b 118 then Some Pairs
    else if nat_eq b 117 then Some Listed
    else if nat_eq b 116 then Some Blob
    else None

-- ---- values

-- the whole number that a signed one is; negative zero is zero
abbrev pub whole_number : Signed → ℤ
whole_number n = if n.negative then neg_ℤ (pos n.size) else pos n.size

-- a whole number, of magnitude at most 2^53-1
unfoldable pub whole_plan : PartPlan AnyTree
whole_plan = want signed (λ n spot. if nat_lt n.size (2 ^ 53) then give (whole (whole_number n)) else refuse NumberTooLarge spot)

-- one more value, behind those that were read
unfoldable pub tree_step : PartPlan AnyTree → AnyTrees → PartPlan AnyTrees
tree_step inner found = do
  t ← inner
  give (with_last found t)

-- one more key with its value, behind those that were read
unfoldable pub field_step : PartPlan AnyTree → AnyFields → PartPlan AnyFields
field_step inner found = want text (λ key spot. do
  t ← inner
  give (with_last_field found key t))

-- a list, which opens where values may stand inside: how many there are, and then these
unfoldable pub list_plan : Option (PartPlan AnyTree) → Spot → PartPlan AnyTrees
list_plan None spot = refuse TooDeep spot
list_plan (Some inner) spot = want unsigned (λ count at. repeated (tree_step inner) count no_trees)

-- an object, which opens likewise: how many pairs there are, and then these
unfoldable pub pairs_plan : Option (PartPlan AnyTree) → Spot → PartPlan AnyFields
pairs_plan None spot = refuse TooDeep spot
pairs_plan (Some inner) spot = want unsigned (λ count at. repeated (field_step inner) count no_fields)

-- what stands behind a tag; a value may stand inside where there is a plan for it
abbrev pub tagged_plan : Option (PartPlan AnyTree) → Spot → Option Tag → PartPlan AnyTree
tagged_plan inner spot None = refuse BadTag spot
tagged_plan inner spot (Some Undefined) = give undefined
tagged_plan inner spot (Some Null) = give null
tagged_plan inner spot (Some Whole) = whole_plan
tagged_plan inner spot (Some Raw4) = want (raw 4) (λ bs at. give (raw4 bs))
tagged_plan inner spot (Some Raw8) = want (raw 8) (λ bs at. give (raw8 bs))
tagged_plan inner spot (Some Big) = want (raw 8) (λ bs at. give (big (cast_signed w64 (from_be_bytes w64 bs))))
tagged_plan inner spot (Some False) = give (flag false)
tagged_plan inner spot (Some True) = give (flag true)
tagged_plan inner spot (Some Str) = want text (λ t at. give (str t))
tagged_plan inner spot (Some Pairs) = do
  fs ← pairs_plan inner spot
  give (pairs fs)
tagged_plan inner spot (Some Listed) = do
  ts ← list_plan inner spot
  give (list ts)
tagged_plan inner spot (Some Blob) = want blob (λ bs at. give (bytes bs))

-- an any-value in which lists and objects nest at most so deep
unfoldable pub any_plan : ℕ → PartPlan AnyTree
any_plan zero = want byte (λ b spot. tagged_plan None spot (tag_of_byte b))
any_plan (suc most) = want byte (λ b spot. tagged_plan (Some (any_plan most)) spot (tag_of_byte b))

-- the plan of a value inside one that nests at most so deep, if one may open
abbrev pub inner_plan : ℕ → Option (PartPlan AnyTree)
inner_plan zero = None
inner_plan (suc most) = Some (any_plan most)
