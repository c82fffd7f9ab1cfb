-- Reading updates by their plan, step by step.
use Rattle.std.proofs.Common.{◌≡◌, ◌∙◌, [], ℕ, Option, Result, Ok}
use Rattle.yd_ops.specs.Value as ops
use Rattle.yd_parts.specs.Fault.{Fault}
use Rattle.yd_fields.specs.Field.{FieldType, FieldValue, FieldPlan}
use Rattle.yd_fields.specs.Field as field
use Rattle.yd_parts.specs.Plan.{give, and_then, read_by, repeated, ◌>>=◌}
use Rattle.yd_fields.specs.UpdatePlan.{BlocksRead, blocks_step, deletes_plan, update_plan}
use Rattle.yd_parts.specs.declared.fault.Spot.{Spot}
use Rattle.yd_parts.proofs.PlanLemmas.{read_by_bind, then_same}

-- an update: its blocks, and its deletions
pub read_update_plan : {S : Type 0} (at : (t : FieldType) → S → Result (FieldValue t × S) Fault) (spot_of : S → Spot) (most : Option ℕ) (s : S) →
    read_by at spot_of (update_plan most) s ≡ and_then (at field.number s) (λ count.
    and_then (read_by at spot_of (repeated blocks_step count.0 (record { most = most; blocks = [] })) count.1) (λ read.
    and_then (read_by at spot_of deletes_plan read.1) (λ deletes. Ok (record { blocks = read.0.blocks; deletes = deletes.0 }, deletes.1))))
unfolding update_plan read_by
read_update_plan {S} at spot_of most s =
    then_same (at field.number s) _ _ (λ count.
    read_by_bind at spot_of (repeated blocks_step count.0 (record { most = most; blocks = [] })) behind_blocks count.1
    ∙ then_same (read_by at spot_of (repeated blocks_step count.0 (record { most = most; blocks = [] })) count.1) _ _ (λ read.
    read_by_bind at spot_of deletes_plan (λ deletes. give (record { blocks = read.0.blocks; deletes = deletes })) read.1))
  where
    behind_blocks : BlocksRead → FieldPlan ops.UpdateValue
    behind_blocks read = deletes_plan >>= λ deletes. give (record { blocks = read.blocks; deletes = deletes })
