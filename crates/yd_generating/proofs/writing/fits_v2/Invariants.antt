use Rattle.std.proofs.Common.{◌≡◌, ◌+◌, drop, map}
use Rattle.yd_ops.specs.View.{block_value}
use Rattle.yd_fields.specs.UpdatePlan.{structs_in}
use Rattle.yd_generating.proofs.writing.fits_v2.Given as goal

-- with the structs of the blocks that are left, there are as many as there are room was taken for
abbrev pub invariant-loop-block : goal.invariant-loop-block
invariant-loop-block l = structs_in (map block_value l.update.blocks) + l.left ≡ 4194304 + structs_in (map block_value (drop l.block-index l.update.blocks))
