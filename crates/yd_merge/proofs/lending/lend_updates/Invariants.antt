use Rattle.std.proofs.Common.{◌≡◌, ◌++◌, map, drop}
use Rattle.yd_words.specs.Each.{Each}
use Rattle.yd_ops.specs.View.{update_value}
use Rattle.yd_merge.specs.Lending.{IsLent, lent_group, updates_groups}
use Rattle.yd_merge.proofs.lending.lend_updates.Given as goal

-- with what the updates that are left have, all is lent
abbrev pub invariant-loop-update : goal.invariant-loop-update
invariant-loop-update l = record {
  groups : map lent_group l.lents.items ++ updates_groups (map update_value (drop l.update-index l.updates))
      ≡ map lent_group l.initial.lents.items ++ updates_groups (map update_value l.updates);
  lent : Each IsLent l.lents.items;
}
