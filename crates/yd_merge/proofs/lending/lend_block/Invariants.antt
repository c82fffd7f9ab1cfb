use Rattle.std.proofs.Common.{◌≡◌, ◌++◌, map, drop}
use Rattle.yd_words.specs.Each.{Each}
use Rattle.yd_ops.specs.Valid.{AreStructsFrom}
use Rattle.yd_ops.specs.View.{struct_value}
use Rattle.yd_merge.specs.Lending.{IsLent, lent_group, structs_groups}
use Rattle.yd_merge.proofs.lending.lend_block.Given as goal

-- the structs that are left begin at the clock, and with what they have all is lent
abbrev pub invariant-loop-next : goal.invariant-loop-next
invariant-loop-next l = record {
  valid : AreStructsFrom l.block.client l.clock (map struct_value (drop l.next-index l.block.structs));
  groups : map lent_group l.lents.items ++ structs_groups l.block.client l.clock (map struct_value (drop l.next-index l.block.structs))
      ≡ map lent_group l.initial.lents.items ++ structs_groups l.block.client l.block.clock (map struct_value l.block.structs);
  lent : Each IsLent l.lents.items;
}
