-- Reading blocks by their plan, step by step.
use Rattle.std.proofs.Common.{◌≡◌, ◌+◌, ◌++◌, [], ◌∷◌, ℕ, Bool, true, false, Result, Ok, Err, if◌then◌else◌, refl}
use Rattle.std.proofs.lemmas.List.{map_push}
use Rattle.yd_ids.specs.declared.id.Client.{Client}
use Rattle.yd_ops.specs.Value as ops
use Rattle.yd_parts.specs.Fault.{Fault}
use Rattle.yd_fields.specs.Field.{FieldType, FieldValue, FieldPlan}
use Rattle.yd_fields.specs.Field as field
use Rattle.yd_parts.specs.Plan.{give, refuse, and_then, read_by, repeated, ◌>>=◌}
use Rattle.yd_fields.specs.StructPlan.{struct_plan}
use Rattle.yd_fields.specs.UpdatePlan.{StructsRead, BlocksRead, block_plan, blocks_step, may_declare, still_declared, structs_step}
use Rattle.yd_parts.specs.declared.fault.Cause.TheVariants as causes
use Rattle.yd_parts.specs.declared.fault.Spot.{Spot}
use Rattle.yd_parts.proofs.PlanLemmas.{read_by_bind, then_same}

-- one more struct
pub read_structs_step : {S : Type 0} (at : (t : FieldType) → S → Result (FieldValue t × S) Fault) (spot_of : S → Spot) (client : Client) (read : StructsRead) (s : S) →
    read_by at spot_of (structs_step client read) s ≡ and_then (read_by at spot_of (struct_plan client read.clock) s) (λ next. Ok (record { clock = read.clock + ops.clocks_of next.0; structs = read.structs ++ next.0 ∷ [] }, next.1))
unfolding structs_step read_by
read_structs_step at spot_of client read s =
    read_by_bind at spot_of (struct_plan client read.clock) (λ next. give (record { clock = read.clock + ops.clocks_of next; structs = read.structs ++ next ∷ [] })) s

-- a block: its client, its clock, and its structs
pub read_block_plan : {S : Type 0} (at : (t : FieldType) → S → Result (FieldValue t × S) Fault) (spot_of : S → Spot) (count : ℕ) (s : S) →
    read_by at spot_of (block_plan count) s ≡ and_then (at field.client s) (λ client. and_then (at field.number client.1) (λ clock.
    and_then (read_by at spot_of (repeated (structs_step (record { 0 = client.0 })) count (record { clock = clock.0; structs = [] })) clock.1) (λ read.
    Ok (record { client = record { 0 = client.0 }; clock = clock.0; structs = read.0.structs }, read.1))))
unfolding block_plan read_by
read_block_plan at spot_of count s =
    then_same (at field.client s) _ _ (λ client. then_same (at field.number client.1) _ _ (λ clock.
    read_by_bind at spot_of (repeated (structs_step (record { 0 = client.0 })) count (record { clock = clock.0; structs = [] })) (λ read. give (record { client = record { 0 = client.0 }; clock = clock.0; structs = read.structs })) clock.1))

-- one more block
pub read_blocks_step : {S : Type 0} (at : (t : FieldType) → S → Result (FieldValue t × S) Fault) (spot_of : S → Spot) (read : BlocksRead) (s : S) →
    read_by at spot_of (blocks_step read) s ≡ and_then (at field.number s) (λ count.
    if may_declare read.most count.0 then and_then (read_by at spot_of (block_plan count.0) count.1) (λ block. Ok (record { most = still_declared read.most count.0; blocks = read.blocks ++ block.0 ∷ [] }, block.1))
    else Err (record { cause = causes.TooManyStructs; spot = spot_of count.1 }))
unfolding blocks_step read_by
read_blocks_step {S} at spot_of read s = then_same (at field.number s) _ _ (λ count. declared (may_declare read.most count.0) count.0 count.1)
  where
    behind_count : ℕ → FieldPlan BlocksRead
    behind_count count = block_plan count >>= λ block. give (record { most = still_declared read.most count; blocks = read.blocks ++ block ∷ [] })

    declared : (test : Bool) (count : ℕ) (left : S) →
        read_by at spot_of (if test then behind_count count else refuse causes.TooManyStructs (spot_of left)) left
        ≡ (if test then and_then (read_by at spot_of (block_plan count) left) (λ block. Ok (record { most = still_declared read.most count; blocks = read.blocks ++ block.0 ∷ [] }, block.1)) else Err (record { cause = causes.TooManyStructs; spot = spot_of left }))
    declared true count left = read_by_bind at spot_of (block_plan count) (λ block. give (record { most = still_declared read.most count; blocks = read.blocks ++ block ∷ [] })) left
    declared false count left = refl

-- ---- one more, as the code has it in a list

pub ruleset next_struct = (read_structs_step, map_push)

pub ruleset next_block = (read_blocks_step, map_push)
