-- The fields of an update are what its plan wants.
use Rattle.std.proofs.Common.{[], ℕ, Option, None, length, refl}
use Rattle.yd_ops.specs.Value as ops
use Rattle.yd_ops.specs.Valid.{IsValidUpdate}
use Rattle.yd_parts.specs.Plan.{give, Expects, repeated, ◌>>=◌}
use Rattle.yd_fields.specs.UpdateFields.{fields_of_blocks, fields_of_deletes, fields_of_update}
use Rattle.yd_fields.specs.UpdatePlan.{AllowsStructs, blocks_step, deletes_plan, still_declared, structs_in, update_plan}
use Rattle.yd_fields.proofs.BlockExpectLemmas.{blocks_expect}
use Rattle.yd_fields.proofs.DeletesExpectLemmas.{deletes_expect}
use Rattle.yd_parts.proofs.ExpectLemmas.{expects_bind, expects_last}

-- ---- lemmas for callers

-- the fields of a valid update are what the plan wants, where a limit allows its structs
pub update_expects_within : (most : Option ℕ) (u : ops.UpdateValue) → IsValidUpdate u → AllowsStructs most (structs_in u.blocks) → Expects (update_plan most) (fields_of_update u) u
unfolding update_plan
update_expects_within most u is allows = (
  length u.blocks,
  refl,
  λ spot.
      expects_bind (repeated blocks_step (length u.blocks) (record { most = most; blocks = [] })) (λ read. deletes_plan >>= λ deletes. give (record { blocks = read.blocks; deletes = deletes }))
      (fields_of_blocks u.blocks) (fields_of_deletes u.deletes) (record { most = still_declared most (structs_in u.blocks); blocks = u.blocks }) u (blocks_expect most u.blocks [] is.blocks allows)
      (expects_last deletes_plan (λ deletes. give (record { blocks = u.blocks; deletes = deletes })) (fields_of_deletes u.deletes) u.deletes u (deletes_expect u.deletes is.deletes) refl),
)

-- the fields of a valid update are what the plan wants, where there is no limit
pub update_expects : (u : ops.UpdateValue) → IsValidUpdate u → Expects (update_plan None) (fields_of_update u) u
update_expects u is = update_expects_within None u is tt
