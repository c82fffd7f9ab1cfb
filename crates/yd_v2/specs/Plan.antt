-- Update format V2: the parts of each field (Yjs 13, UpdateEncoderV2 and UpdateDecoderV2).
use Rattle.std.specs.Prelude.{ℕ, zero, suc, ◌+◌, List, [], ◌∷◌, ◌++◌, Option, Some, None}
use Rattle.yd_any.specs.Outcome.{carried}
use Rattle.yd_any.specs.Tree.{AnyTree}
use Rattle.yd_fields.specs.Field.{FieldType, FieldValue}
use Rattle.yd_fields.specs.Field as field
use Rattle.yd_fields.specs.JsonPlan.{made_at}
use Rattle.yd_reading.specs.Judged.{flag_at, range_at}
use Rattle.yd_parts.specs.AnyPlan.{any_plan}
use Rattle.yd_parts.specs.Part as part
use Rattle.yd_parts.specs.Part.{PartPlan}
use Rattle.yd_parts.specs.Plan.{give, refuse, want, of_made, ◌>>=◌}
use Rattle.yd_parts.specs.declared.fault.Spot.{Spot}
use Rattle.yd_v2.specs.Part.{V2Plan, client, flag, info, key_number, kind, left_clock, len, mark, rest, right_clock, string}

-- what reading a field gives: its value, the spot of its first part, and the keys that are known then, in the order in which they were read
pub record FieldRead (X : Type 0) : Type 0 where
  pub value : X
  pub spot : Spot
  pub known : List (List ℕ)

-- a plan of parts, followed in the rest
unfoldable pub in_rest : {X : Type 0} → PartPlan X → V2Plan X
in_rest (give x) = give x
in_rest (refuse cause spot) = refuse cause spot
in_rest (want t next) = want (rest t) (λ v spot. in_rest (next v spot))

-- a number of a column, as it stands
abbrev pub as_read : {X : Type 0} → List (List ℕ) → X → Spot → V2Plan (FieldRead X)
as_read known v spot = give (record { value = v; spot = spot; known = known })

-- the key of a number: one that is known, if there is one
abbrev pub key_of_number : List (List ℕ) → ℕ → Option (List ℕ)
key_of_number [] n = None
key_of_number (key ∷ known) zero = Some key
key_of_number (key ∷ known) (suc n) = key_of_number known n

-- a key that is known, or one that is new, with its string
abbrev pub found_key : List (List ℕ) → Spot → Option (List ℕ) → V2Plan (FieldRead (List ℕ))
found_key known spot (Some key) = as_read known key spot
found_key known spot None = want string (λ key at. as_read (known ++ key ∷ []) key spot)

-- a key: its number, and its string where it is new
unfoldable pub key_plan : List (List ℕ) → V2Plan (FieldRead (List ℕ))
key_plan known = want key_number (λ n spot. found_key known spot (key_of_number known n))

-- an any-value, which stands in the rest
unfoldable pub any_field_plan : List (List ℕ) → V2Plan (FieldRead AnyTree)
any_field_plan known = want mark (λ none spot. in_rest (any_plan 100) >>= λ t. as_read known t spot)

-- a JSON value: an any-value in the rest, in which each value is carried
unfoldable pub json_field_plan : List (List ℕ) → V2Plan (FieldRead AnyTree)
json_field_plan known = want mark (λ none spot. in_rest (any_plan 100) >>= λ t. of_made (made_at spot (carried t)) >>= λ j. as_read known j spot)

-- a range: how far its clock is behind the end of the one before, and its length less one
unfoldable pub range_plan : ℕ → List (List ℕ) → V2Plan (FieldRead (ℕ × ℕ))
range_plan before known = want (rest part.unsigned) (λ far spot. want (rest part.unsigned) (λ less at. of_made (range_at spot (before + far) (suc less)) >>= λ r. as_read known r spot))

-- the parts of a field of each type, where these keys are known
abbrev pub v2_plan : (t : FieldType) → List (List ℕ) → V2Plan (FieldRead (FieldValue t))
v2_plan field.info known = want info (as_read known)
v2_plan field.client known = want client (as_read known)
v2_plan field.left known = want client (λ c spot. want left_clock (λ clock at. as_read known (record { client = record { 0 = c }; clock = clock }) spot))
v2_plan field.right known = want client (λ c spot. want right_clock (λ clock at. as_read known (record { client = record { 0 = c }; clock = clock }) spot))
v2_plan field.flag known = want flag (λ v spot. of_made (flag_at spot v) >>= λ f. as_read known f spot)
v2_plan field.string known = want string (as_read known)
v2_plan field.key known = key_plan known
v2_plan field.kind known = want kind (as_read known)
v2_plan field.len known = want len (as_read known)
v2_plan field.any known = any_field_plan known
v2_plan field.blob known = want (rest part.blob) (as_read known)
v2_plan field.json known = json_field_plan known
v2_plan field.number known = want (rest part.unsigned) (as_read known)
v2_plan (field.range before) known = range_plan before known
