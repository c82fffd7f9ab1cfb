-- The laws of fields, whatever the format.
use Rattle.std.specs.Prelude.{ℕ, ◌≤◌, List, Option, Some}
use Rattle.yd_ids.specs.declared.id.Client.{Client}
use Rattle.yd_ids.specs.Vector.{IsVector}
use Rattle.yd_ops.specs.Valid.{IsValidUpdate}
use Rattle.yd_ops.specs.Value.{UpdateValue}
use Rattle.yd_parts.specs.Plan.{Expects, Found, give, LeadsTo, things_in}
use Rattle.yd_fields.specs.Field.{FieldPlan, FieldValue}
use Rattle.yd_fields.specs.UpdateFields.{fields_of_update}
use Rattle.yd_fields.specs.UpdatePlan.{AllowsStructs, structs_in, update_plan, vector_plan}
use Rattle.yd_fields.specs.VectorFields.{fields_of_vector}

-- the fields of a valid update are those that reading wants one after the other, and make the update again, in any format and under any limit that
-- allows its structs; and so those of a vector
pub record FieldsComeBack : Type 0 where
  pub updates : (most : Option ℕ) (u : UpdateValue) → IsValidUpdate u → AllowsStructs most (structs_in u.blocks) → Expects (update_plan most) (fields_of_update u) u
  pub vectors : (vector : List (Client × ℕ)) → IsVector vector → Expects vector_plan (fields_of_vector vector) vector

-- fields that lead to an update, wherever they stand, are those that reading wants for it at any other places; and what any plan wants for an update
-- leads there, wherever it stands
pub record PlacesDoNotMatter : Type 0 where
  pub wanted : (most : Option ℕ) (found : List (Found FieldValue)) (u : UpdateValue) → LeadsTo (update_plan most) found (give u) → Expects (update_plan most) (things_in found) u
  pub leads : (plan : FieldPlan UpdateValue) (found : List (Found FieldValue)) (u : UpdateValue) → Expects plan (things_in found) u → LeadsTo plan found (give u)

-- under a limit, fields lead to no update that has more structs than that in all its blocks together, wherever they stand
abbrev pub LimitsHold : Type 0
LimitsHold = (most : ℕ) (found : List (Found FieldValue)) (u : UpdateValue) → LeadsTo (update_plan (Some most)) found (give u) → structs_in u.blocks ≤ most
