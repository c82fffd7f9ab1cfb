-- The plans of structs want the same fields, wherever these stand.
use Rattle.std.proofs.Common.{◌+◌, ◌^◌, ◌++◌, [], ◌∷◌, ℕ, Bool, true, false, List, length, Option, Some, None, Result, Ok, Err, nat_eq, nat_lt, if◌then◌else◌}
use Rattle.std.specs.Prelude.{codes}
use Rattle.std.specs.Str.{bytes_eq}
use Rattle.yd_any.specs.Outcome.{value_of_text}
use Rattle.yd_any.specs.Tree.{AnyTree, AnyTrees, no_trees, with_last}
use Rattle.yd_any.specs.declared.fault.JsonFault.{JsonFault}
use Rattle.yd_ids.specs.declared.id.Client.{Client}
use Rattle.yd_ids.specs.declared.id.Id.{Id}
use Rattle.yd_units.specs.Text.{units_of}
use Rattle.yd_ops.specs.Value as ops
use Rattle.yd_ops.specs.declared.kinds.Kind.TheVariants as kinds
use Rattle.yd_ops.specs.declared.lists.Parent.TheVariants.{Root, Item as ParentItem}
use Rattle.yd_fields.specs.Field.{FieldType, FieldValue}
use Rattle.yd_fields.specs.Field as field
use Rattle.yd_fields.specs.JsonPlan.{made_at}
use Rattle.yd_parts.specs.Plan.{and_then, of_made}
use Rattle.yd_fields.specs.StructPlan.{carried_plan, clocks_plan, content_plan, deleted_plan, ended_plan, gone_plan, has_key, has_left, has_right, item_plan, kind_of_info, kind_plan, kinded_plan, list_plan, nested_plan, numbered_plan, optional_plan, parent_plan, skip_plan, struct_plan, type_plan, unit_step, units_plan, value_step, values_plan}
use Rattle.yd_fields.specs.TypeNumber.{kind_of_number}
use Rattle.yd_fields.specs.declared.info.ContentKind.{ContentKind}
use Rattle.yd_fields.specs.declared.info.ContentKind.TheVariants.{Deleted, Json, Binary, Str, Embed, Format, Nested, Any}
use Rattle.yd_fields.specs.declared.info.StructKind.{StructKind}
use Rattle.yd_fields.specs.declared.info.StructKind.TheVariants.{Gone, Item, Subdocument, Skip, Unknown}
use Rattle.yd_fields.specs.declared.kinds.TypeKind.{TypeKind}
use Rattle.yd_fields.specs.declared.kinds.TypeKind.TheVariants as types
use Rattle.yd_parts.specs.declared.fault.Spot.{Spot}
use Rattle.yd_parts.proofs.AlikeLemmas.{AreAlike, alike_bind, alike_give, alike_if, alike_refuse, alike_repeated, alike_want}

-- ---- lists

-- a field that may be there
optional_alike : (t : FieldType) (there : Bool) → AreAlike (optional_plan t there) (optional_plan t there)
optional_alike t true = alike_want (λ v spot place. alike_give (Some v))
optional_alike t false = alike_give None

-- a parent
parent_alike : AreAlike parent_plan parent_plan
unfolding parent_plan
parent_alike = alike_want (λ flag spot place. alike_if (nat_eq flag 1) (alike_want (λ name at there. alike_give (Root name))) (alike_want (λ id at there. alike_give (ParentItem id))))

-- a list
list_alike : (keyed : Bool) → AreAlike (list_plan keyed) (list_plan keyed)
unfolding list_plan
list_alike keyed = alike_bind parent_alike (λ parent. alike_bind (optional_alike field.string keyed) (λ key. alike_give (Some (record { parent = parent; key = key }))))

-- a list that is carried where both origins are absent
carried_alike : (keyed : Bool) (left right : Option Id) → AreAlike (carried_plan keyed left right) (carried_plan keyed left right)
carried_alike keyed None None = list_alike keyed
carried_alike keyed None (Some right) = alike_give None
carried_alike keyed (Some left) right = alike_give None

-- ---- contents

-- the unit of a text, by what was made of the text
made_alike : (undefined : Bool) (made : Result AnyTree JsonFault) (spot place : Spot) →
    AreAlike {V = FieldValue} (of_made (if undefined then Ok None else and_then (made_at spot made) (λ t. Ok (Some t)))) (of_made (if undefined then Ok None else and_then (made_at place made) (λ t. Ok (Some t))))
made_alike true made spot place = alike_give None
made_alike false (Ok t) spot place = alike_give (Some t)
made_alike false (Err fault) spot place = alike_refuse

-- one more JSON unit
unit_alike : (found : List (Option AnyTree)) → AreAlike (unit_step found) (unit_step found)
unfolding unit_step
unit_alike found = alike_want (λ text spot place. alike_bind (made_alike (bytes_eq text (codes "undefined")) (value_of_text text) spot place) (λ unit. alike_give (found ++ unit ∷ [])))

-- one more any-value
value_alike : (found : AnyTrees) → AreAlike (value_step found) (value_step found)
unfolding value_step
value_alike found = alike_want (λ t spot place. alike_give (with_last found t))

-- what stands behind a type's number
type_alike : (kind : TypeKind) → AreAlike (type_plan kind) (type_plan kind)
type_alike types.Array = alike_give kinds.Array
type_alike types.Map = alike_give kinds.Map
type_alike types.Text = alike_give kinds.Text
type_alike types.Element = alike_want (λ name spot place. alike_give (kinds.Element name))
type_alike types.Fragment = alike_give kinds.Fragment
type_alike types.Hook = alike_want (λ name spot place. alike_give (kinds.Hook name))
type_alike types.ElementText = alike_give kinds.ElementText

-- a type that was found by its number, or none
numbered_alike : (spot place : Spot) (kind : Option TypeKind) → AreAlike (numbered_plan spot kind) (numbered_plan place kind)
numbered_alike spot place None = alike_refuse
numbered_alike spot place (Some kind) = type_alike kind

-- a type
nested_alike : AreAlike nested_plan nested_plan
unfolding nested_plan kind_plan
nested_alike = alike_bind (alike_want (λ n spot place. numbered_alike spot place (kind_of_number n))) (λ kind. alike_give (ops.nested kind))

-- deleted units
deleted_alike : (begin other : Spot) → AreAlike (deleted_plan begin) (deleted_plan other)
unfolding deleted_plan
deleted_alike begin other = alike_want (λ count spot place. alike_if (nat_eq count 0) alike_refuse (alike_give (ops.deleted count)))

-- JSON units
units_alike : (begin other : Spot) → AreAlike (units_plan begin) (units_plan other)
unfolding units_plan
units_alike begin other = alike_want (λ count spot place. alike_if (nat_eq count 0) alike_refuse (alike_bind (alike_repeated unit_alike count []) (λ units. alike_give (ops.json units))))

-- any-values
values_alike : (begin other : Spot) → AreAlike (values_plan begin) (values_plan other)
unfolding values_plan
values_alike begin other = alike_want (λ count spot place. alike_if (nat_eq count 0) alike_refuse (alike_bind (alike_repeated value_alike count no_trees) (λ values. alike_give (ops.any values))))

-- a content of each kind
content_alike : (kind : ContentKind) (begin other : Spot) → AreAlike (content_plan kind begin) (content_plan kind other)
unfolding content_plan
content_alike Deleted begin other = deleted_alike begin other
content_alike Json begin other = units_alike begin other
content_alike Binary begin other = alike_want (λ bytes spot place. alike_give (ops.binary bytes))
content_alike Str begin other = alike_want (λ text spot place. alike_if (nat_eq (length text) 0) alike_refuse (alike_give (ops.string (units_of text))))
content_alike Embed begin other = alike_want (λ t spot place. alike_give (ops.embed t))
content_alike Format begin other = alike_want (λ key spot place. alike_want (λ t at there. alike_give (ops.format key t)))
content_alike Nested begin other = nested_alike
content_alike Any begin other = values_alike begin other

-- ---- structs

-- a struct that ends at a clock
ended_alike : (clock : ℕ) (begin other : Spot) (s : ops.StructValue) → AreAlike (ended_plan clock begin s) (ended_plan clock other s)
ended_alike clock begin other s = alike_if (nat_lt (clock + ops.clocks_of s) (2 ^ 53)) (alike_give s) alike_refuse

-- an item
item_alike : (client : Client) (clock info : ℕ) (begin other : Spot) (kind : ContentKind) → AreAlike (item_plan client clock info begin kind) (item_plan client clock info other kind)
unfolding item_plan
item_alike client clock info begin other kind =
    alike_bind (optional_alike field.left (has_left info)) (λ left.
    alike_bind (optional_alike field.right (has_right info)) (λ right.
    alike_bind (carried_alike (has_key info) left right) (λ list.
    alike_bind (content_alike kind begin other) (λ content.
    ended_alike clock begin other (ops.item (record { id = record { client = client; clock = clock }; left = left; right = right; list = list; content = content }))))))

-- a number of clocks
clocks_alike : (clock : ℕ) (begin other : Spot) (s : ops.StructValue) → AreAlike (clocks_plan clock begin s) (clocks_plan clock other s)
clocks_alike clock begin other s = alike_if (nat_eq (ops.clocks_of s) 0) alike_refuse (ended_alike clock begin other s)

-- a skip
skip_alike : (clock : ℕ) (begin other : Spot) → AreAlike (skip_plan clock begin) (skip_plan clock other)
unfolding skip_plan
skip_alike clock begin other = alike_want (λ count spot place. clocks_alike clock begin other (ops.skip count))

-- a gone run
gone_alike : (clock : ℕ) (begin other : Spot) → AreAlike (gone_plan clock begin) (gone_plan clock other)
unfolding gone_plan
gone_alike clock begin other = alike_want (λ count spot place. clocks_alike clock begin other (ops.gone count))

-- a struct of each kind
kinded_alike : (client : Client) (clock info : ℕ) (begin other : Spot) (kind : StructKind) → AreAlike (kinded_plan client clock info begin kind) (kinded_plan client clock info other kind)
unfolding kinded_plan
kinded_alike client clock info begin other Gone = gone_alike clock begin other
kinded_alike client clock info begin other (Item kind) = item_alike client clock info begin other kind
kinded_alike client clock info begin other Subdocument = alike_refuse
kinded_alike client clock info begin other Skip = skip_alike clock begin other
kinded_alike client clock info begin other Unknown = alike_refuse

-- a struct of a client that begins at a clock
pub struct_alike : (client : Client) (clock : ℕ) → AreAlike (struct_plan client clock) (struct_plan client clock)
unfolding struct_plan
struct_alike client clock = alike_want (λ info begin other. kinded_alike client clock info begin other (kind_of_info info))
