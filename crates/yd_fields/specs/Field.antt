-- Fields: what the structs, delete sets and blocks of an update are written in, whatever the format (Yjs 13, update encoders).
use Rattle.std.specs.Prelude.{◌≡◌, ℕ, ◌+◌, ◌^◌, ◌<◌, List, Result, Ok, IsTrue, IsUtf8}
use Rattle.yd_any.specs.Tree.{AnyTree}
use Rattle.yd_any.specs.Valid.{is_valid_any, is_valid_json}
use Rattle.yd_ids.specs.Id.{IsId}
use Rattle.yd_ids.specs.declared.id.Id.{Id}
use Rattle.yd_parts.specs.Fault.{Fault}
use Rattle.yd_parts.specs.Plan.{Plan}

-- the types of fields; a range comes behind another one of its client, or behind 0
pub data FieldType : Type 0 where
  info : FieldType
  client : FieldType
  left : FieldType
  right : FieldType
  flag : FieldType
  string : FieldType
  key : FieldType
  kind : FieldType
  len : FieldType
  any : FieldType
  blob : FieldType
  json : FieldType
  number : FieldType
  range : ℕ → FieldType

-- what a field of each type holds; a range has its clock and its length
abbrev pub FieldValue : FieldType → Type 0
FieldValue info = ℕ
FieldValue client = ℕ
FieldValue left = Id
FieldValue right = Id
FieldValue flag = ℕ
FieldValue string = List ℕ
FieldValue key = List ℕ
FieldValue kind = ℕ
FieldValue len = ℕ
FieldValue any = AnyTree
FieldValue blob = List ℕ
FieldValue json = AnyTree
FieldValue number = ℕ
FieldValue (range before) = ℕ × ℕ

-- a type, and what it holds
abbrev pub Field : Type 0
Field = (t : FieldType) × FieldValue t

-- a plan of reading fields
abbrev pub FieldPlan : Type 0 → Type 0
FieldPlan X = Plan FieldValue X

-- numbers, clients and clocks are below 2^53, and so are the ends of ranges; a flag is 0 or 1; values are valid
abbrev pub Fits : (t : FieldType) → FieldValue t → Type 0
Fits info v = Unit {0}
Fits client v = v < 2 ^ 53
Fits left id = IsId id
Fits right id = IsId id
Fits flag v = v < 2
Fits string text = IsUtf8 text
Fits key text = IsUtf8 text
Fits kind v = v < 2 ^ 53
Fits len v = v < 2 ^ 53
Fits any t = IsTrue (is_valid_any t)
Fits blob bytes = Unit {0}
Fits json t = IsTrue (is_valid_json t)
Fits number v = v < 2 ^ 53
Fits (range before) r = r.0 + r.1 < 2 ^ 53

-- where the reader is sound, what reading gives fits its type, and the reader behind it is sound again
abbrev pub ReadsFit : {S : Type 0} → ((t : FieldType) → S → Result (FieldValue t × S) Fault) → (S → Type 0) → Type 0
ReadsFit {S} at IsSound = (t : FieldType) (now : S) (v : FieldValue t) (next : S) → IsSound now → at t now ≡ Ok (v, next) → Fits t v × IsSound next
