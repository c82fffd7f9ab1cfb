use Rattle.std.proofs.Common.{◌≡◌, ◌++◌, map, drop}
use Rattle.yd_words.specs.Each.{Each}
use Rattle.yd_ops.specs.View.{block_value}
use Rattle.yd_merge.specs.Lending.{IsLent, blocks_groups, lent_group}
use Rattle.yd_merge.proofs.lending.lend_update.Given as goal

-- with what the blocks that are left have, all is lent
abbrev pub invariant-loop-block : goal.invariant-loop-block
invariant-loop-block l = record {
  groups : map lent_group l.lents.items ++ blocks_groups (map block_value (drop l.block-index l.update.blocks))
      ≡ map lent_group l.initial.lents.items ++ blocks_groups (map block_value l.update.blocks);
  lent : Each IsLent l.lents.items;
}
