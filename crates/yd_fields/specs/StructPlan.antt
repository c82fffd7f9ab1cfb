-- How structs are read (Yjs 13, Item, GC and Skip and their contents): an info byte, origins or a list, and a content.
use Rattle.std.specs.Prelude.{ℕ, ◌+◌, ◌/◌, ◌%◌, ◌^◌, List, [], ◌∷◌, ◌++◌, Bool, true, false, length, Option, Some, None, nat_eq, nat_lt, if◌then◌else◌}
use Rattle.yd_any.specs.Tree.{AnyTree, AnyTrees, no_trees, with_last}
use Rattle.yd_ids.specs.declared.id.Client.{Client}
use Rattle.yd_ids.specs.declared.id.Id.{Id}
use Rattle.yd_units.specs.Text.{units_of}
use Rattle.yd_ops.specs.Value as ops
use Rattle.yd_ops.specs.declared.kinds.Kind.{Kind}
use Rattle.yd_ops.specs.declared.kinds.Kind.TheVariants as kinds
use Rattle.yd_ops.specs.declared.lists.List.{List as DocList}
use Rattle.yd_ops.specs.declared.lists.Parent.{Parent}
use Rattle.yd_ops.specs.declared.lists.Parent.TheVariants.{Root, Item as ParentItem}
use Rattle.yd_fields.specs.Field.{FieldType, FieldValue, FieldPlan}
use Rattle.yd_fields.specs.Field as field
use Rattle.yd_fields.specs.JsonPlan.{unit_at}
use Rattle.yd_parts.specs.Plan.{give, refuse, want, of_made, ◌>>=◌, repeated}
use Rattle.yd_parts.specs.declared.fault.Cause.TheVariants as causes
use Rattle.yd_parts.specs.declared.fault.Spot.{Spot}
use Rattle.yd_fields.specs.declared.info.ContentKind.{ContentKind}
use Rattle.yd_fields.specs.declared.info.ContentKind.TheVariants.{Deleted, Json, Binary, Str, Embed, Format, Nested, Any}
use Rattle.yd_fields.specs.TypeNumber.{kind_of_number}
use Rattle.yd_fields.specs.declared.kinds.TypeKind.{TypeKind}
use Rattle.yd_fields.specs.declared.kinds.TypeKind.TheVariants as types
use Rattle.yd_fields.specs.declared.info.StructKind.{StructKind}
use Rattle.yd_fields.specs.declared.info.StructKind.TheVariants.{Gone, Item, Subdocument, Skip, Unknown}

-- ---- the info byte

-- the kind of a struct, by the low five bits of its info byte
abbrev pub kind_of_info : ℕ → StructKind
kind_of_info info =
    if nat_eq (info % 32) 0 then Gone
    else if nat_eq (info % 32) 1 then Item Deleted
    else if nat_eq (info % 32) 2 then Item Json
    else if nat_eq (info % 32) 3 then Item Binary
    else if nat_eq (info % 32) 4 then Item Str
    else if nat_eq (info % 32) 5 then Item Embed
    else if nat_eq (info % 32) 6 then Item Format
    else if nat_eq (info % 32) 7 then Item Nested
    else if nat_eq (info % 32) 8 then Item Any
    else if nat_eq (info % 32) 9 then Subdocument
    else if nat_eq (info % 32) 10 then Skip
    else Unknown

-- a left origin is there
abbrev pub has_left : ℕ → Bool
has_left info = nat_eq (info / 128 % 2) 1

-- a right origin is there
abbrev pub has_right : ℕ → Bool
has_right info = nat_eq (info / 64 % 2) 1

-- the list has a key, where no origin is there
abbrev pub has_key : ℕ → Bool
has_key info = nat_eq (info / 32 % 2) 1

-- ---- origins and lists

-- a field that is there, or not
abbrev pub optional_plan : (t : FieldType) → Bool → FieldPlan (Option (FieldValue t))
optional_plan t true = want t (λ v spot. give (Some v))
optional_plan t false = give None

-- a parent: the name of a root, or the id of a type
unfoldable pub parent_plan : FieldPlan Parent
parent_plan = want field.flag (λ flag spot. if nat_eq flag 1 then want field.string (λ name at. give (Root name)) else want field.left (λ id at. give (ParentItem id)))

-- a list: its parent, and its key if it has one
unfoldable pub list_plan : Bool → FieldPlan (Option DocList)
list_plan keyed = do
  parent ← parent_plan
  key ← optional_plan field.string keyed
  give (Some (record { parent = parent; key = key }))

-- the list that is carried exactly where both origins are absent
abbrev pub carried_plan : Bool → Option Id → Option Id → FieldPlan (Option DocList)
carried_plan keyed None None = list_plan keyed
carried_plan keyed None (Some right) = give None
carried_plan keyed (Some left) right = give None

-- ---- contents

-- one more JSON unit, behind those that were read
unfoldable pub unit_step : List (Option AnyTree) → FieldPlan (List (Option AnyTree))
unit_step found = want field.string (λ text spot. do
  unit ← of_made (unit_at spot text)
  give (found ++ unit ∷ []))

-- one more any-value, behind those that were read
unfoldable pub value_step : AnyTrees → FieldPlan AnyTrees
value_step found = want field.any (λ t spot. give (with_last found t))

-- what stands behind a type's number: elements and hooks have a name
abbrev pub type_plan : TypeKind → FieldPlan Kind
type_plan types.Array = give kinds.Array
type_plan types.Map = give kinds.Map
type_plan types.Text = give kinds.Text
type_plan types.Element = want field.key (λ name at. give (kinds.Element name))
type_plan types.Fragment = give kinds.Fragment
type_plan types.Hook = want field.key (λ name at. give (kinds.Hook name))
type_plan types.ElementText = give kinds.ElementText

-- a type that was found by its number, or none
abbrev pub numbered_plan : Spot → Option TypeKind → FieldPlan Kind
numbered_plan spot None = refuse causes.BadType spot
numbered_plan spot (Some kind) = type_plan kind

-- a type by its number
unfoldable pub kind_plan : FieldPlan Kind
kind_plan = want field.kind (λ n spot. numbered_plan spot (kind_of_number n))

-- so many deleted units; none at all is refused where the struct began
unfoldable pub deleted_plan : Spot → FieldPlan ops.ContentValue
deleted_plan begin = want field.len (λ count spot. if nat_eq count 0 then refuse causes.EmptyStruct begin else give (ops.deleted count))

-- so many JSON units; none at all is refused where the struct began
unfoldable pub units_plan : Spot → FieldPlan ops.ContentValue
units_plan begin = want field.len (λ count spot. if nat_eq count 0 then refuse causes.EmptyStruct begin else (do
  units ← repeated unit_step count []
  give (ops.json units)))

-- so many any-values; none at all is refused where the struct began
unfoldable pub values_plan : Spot → FieldPlan ops.ContentValue
values_plan begin = want field.len (λ count spot. if nat_eq count 0 then refuse causes.EmptyStruct begin else (do
  values ← repeated value_step count no_trees
  give (ops.any values)))

-- a type
unfoldable pub nested_plan : FieldPlan ops.ContentValue
nested_plan = do
  kind ← kind_plan
  give (ops.nested kind)

-- the content of an item; one without units is refused where the struct began
unfoldable pub content_plan : ContentKind → Spot → FieldPlan ops.ContentValue
content_plan Deleted begin = deleted_plan begin
content_plan Json begin = units_plan begin
content_plan Binary begin = want field.blob (λ bytes spot. give (ops.binary bytes))
content_plan Str begin = want field.string (λ text spot. if nat_eq (length text) 0 then refuse causes.EmptyStruct begin else give (ops.string (units_of text)))
content_plan Embed begin = want field.json (λ t spot. give (ops.embed t))
content_plan Format begin = want field.key (λ key spot. want field.json (λ t at. give (ops.format key t)))
content_plan Nested begin = nested_plan
content_plan Any begin = values_plan begin

-- ---- structs

-- a struct that ends at a clock; another is refused where it began
abbrev pub ended_plan : ℕ → Spot → ops.StructValue → FieldPlan ops.StructValue
ended_plan clock begin s = if nat_lt (clock + ops.clocks_of s) (2 ^ 53) then give s else refuse causes.ClockTooLarge begin

-- an item behind its info byte: its origins, its list where it has none, and its content
unfoldable pub item_plan : Client → ℕ → ℕ → Spot → ContentKind → FieldPlan ops.StructValue
item_plan client clock info begin kind = do
  left ← optional_plan field.left (has_left info)
  right ← optional_plan field.right (has_right info)
  list ← carried_plan (has_key info) left right
  content ← content_plan kind begin
  ended_plan clock begin (ops.item (record { id = record { client = client; clock = clock }; left = left; right = right; list = list; content = content }))

-- a struct that is a number of clocks alone; one of none is refused where it began
abbrev pub clocks_plan : ℕ → Spot → ops.StructValue → FieldPlan ops.StructValue
clocks_plan clock begin s = if nat_eq (ops.clocks_of s) 0 then refuse causes.EmptyStruct begin else ended_plan clock begin s

-- a skip behind its info byte: how many clocks it leaves out
unfoldable pub skip_plan : ℕ → Spot → FieldPlan ops.StructValue
skip_plan clock begin = want field.number (λ count spot. clocks_plan clock begin (ops.skip count))

-- a gone run behind its info byte: how many units it has, as a length
unfoldable pub gone_plan : ℕ → Spot → FieldPlan ops.StructValue
gone_plan clock begin = want field.len (λ count spot. clocks_plan clock begin (ops.gone count))

-- a struct of each kind behind its info byte
unfoldable pub kinded_plan : Client → ℕ → ℕ → Spot → StructKind → FieldPlan ops.StructValue
kinded_plan client clock info begin Gone = gone_plan clock begin
kinded_plan client clock info begin (Item kind) = item_plan client clock info begin kind
kinded_plan client clock info begin Subdocument = refuse causes.Subdocument begin
kinded_plan client clock info begin Skip = skip_plan clock begin
kinded_plan client clock info begin Unknown = refuse causes.BadInfo begin

-- a struct of a client that begins at a clock
unfoldable pub struct_plan : Client → ℕ → FieldPlan ops.StructValue
struct_plan client clock = want field.info (λ info begin. kinded_plan client clock info begin (kind_of_info info))
