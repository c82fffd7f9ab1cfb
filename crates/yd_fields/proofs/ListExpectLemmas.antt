-- The fields of origins and lists are what their plans want.
use Rattle.std.proofs.Common.{ℕ, List, Option, Some, None, refl}
use Rattle.std.specs.Option.{is_some}
use Rattle.yd_ids.specs.declared.id.Id.{Id}
use Rattle.yd_ops.specs.Valid.{CarriesList}
use Rattle.yd_ops.specs.declared.lists.List.{List as DocList}
use Rattle.yd_ops.specs.declared.lists.Parent.{Parent}
use Rattle.yd_ops.specs.declared.lists.Parent.TheVariants.{Root, Item as ParentItem}
use Rattle.yd_fields.specs.Field as field
use Rattle.yd_parts.specs.Plan.{give, Expects, ◌>>=◌}
use Rattle.yd_fields.specs.StructPlan.{carried_plan, list_plan, optional_plan, parent_plan}
use Rattle.yd_fields.specs.UpdateFields.{fields_of_key, fields_of_left, fields_of_list, fields_of_parent, fields_of_right}
use Rattle.yd_parts.proofs.ExpectLemmas.{expects_bind, expects_last}
use Rattle.yd_fields.proofs.InfoLemmas.{is_keyed}

-- a left origin
pub left_expects : (left : Option Id) → Expects (optional_plan field.left (is_some left)) (fields_of_left left) left
left_expects None = refl
left_expects (Some id) = (id, refl, λ spot. refl)

-- a right origin
pub right_expects : (right : Option Id) → Expects (optional_plan field.right (is_some right)) (fields_of_right right) right
right_expects None = refl
right_expects (Some id) = (id, refl, λ spot. refl)

-- a parent
parent_expects : (parent : Parent) → Expects parent_plan (fields_of_parent parent) parent
unfolding parent_plan
parent_expects (Root name) = (1, refl, λ spot. (name, refl, λ at. refl))
parent_expects (ParentItem id) = (0, refl, λ spot. (id, refl, λ at. refl))

-- a key
key_expects : (key : Option (List ℕ)) → Expects (optional_plan field.string (is_some key)) (fields_of_key key) key
key_expects None = refl
key_expects (Some key) = (key, refl, λ spot. refl)

-- a list
list_expects : (list : DocList) → Expects (list_plan (is_some list.key)) (fields_of_list (Some list)) (Some list)
unfolding list_plan
list_expects list =
    expects_bind parent_plan (λ parent. optional_plan field.string (is_some list.key) >>= λ key. give (Some (record { parent = parent; key = key }))) (fields_of_parent list.parent) (fields_of_key list.key) list.parent (Some list)
    (parent_expects list.parent)
    (expects_last (optional_plan field.string (is_some list.key)) (λ key. give (Some (record { parent = list.parent; key = key }))) (fields_of_key list.key) list.key (Some list) (key_expects list.key) refl)

-- the list, where one is carried
pub carried_expects : (left right : Option Id) (list : Option DocList) → CarriesList left right list → Expects (carried_plan (is_keyed list) left right) (fields_of_list list) list
carried_expects None None None carries = absurd carries
carried_expects None None (Some list) carries = list_expects list
carried_expects None (Some right) None carries = refl
carried_expects None (Some right) (Some list) carries = absurd carries
carried_expects (Some left) right None carries = refl
carried_expects (Some left) right (Some list) carries = absurd carries
