-- Reading structs by their plan, step by step.
use Rattle.std.proofs.Common.{◌≡◌, ◌∙◌, ℕ, Bool, Some, Result, Ok, refl}
use Rattle.yd_ids.specs.declared.id.Client.{Client}
use Rattle.yd_parts.specs.Fault.{Fault}
use Rattle.yd_fields.specs.Field.{FieldType, FieldValue}
use Rattle.yd_fields.specs.Field as field
use Rattle.yd_parts.specs.Plan.{give, and_then, read_by, ◌>>=◌}
use Rattle.yd_fields.specs.StructPlan.{kind_of_info, kinded_plan, list_plan, optional_plan, parent_plan, struct_plan}
use Rattle.yd_parts.specs.declared.fault.Spot.{Spot}
use Rattle.yd_parts.proofs.PlanLemmas.{read_by_bind, then_same}

-- a struct: its info byte, and what stands behind it
pub read_struct_plan : {S : Type 0} (at : (t : FieldType) → S → Result (FieldValue t × S) Fault) (spot_of : S → Spot) (client : Client) (clock : ℕ) (s : S) →
    read_by at spot_of (struct_plan client clock) s
    ≡ and_then (at field.info s) (λ info. read_by at spot_of (kinded_plan client clock info.0 (spot_of info.1) (kind_of_info info.0)) info.1)
unfolding struct_plan read_by
read_struct_plan at spot_of client clock s = refl

-- the list of an item without origins
pub read_list_plan : {S : Type 0} (at : (t : FieldType) → S → Result (FieldValue t × S) Fault) (spot_of : S → Spot) (keyed : Bool) (s : S) →
    read_by at spot_of (list_plan keyed) s ≡ and_then (read_by at spot_of parent_plan s) (λ parent. and_then (read_by at spot_of (optional_plan field.string keyed) parent.1) (λ key. Ok (Some (record { parent = parent.0; key = key.0 }), key.1)))
unfolding list_plan read_by
read_list_plan at spot_of keyed s =
    read_by_bind at spot_of parent_plan (λ parent. optional_plan field.string keyed >>= λ key. give (Some (record { parent = parent; key = key }))) s
    ∙ then_same (read_by at spot_of parent_plan s) _ _ (λ parent. read_by_bind at spot_of (optional_plan field.string keyed) (λ key. give (Some (record { parent = parent.0; key = key }))) parent.1)
