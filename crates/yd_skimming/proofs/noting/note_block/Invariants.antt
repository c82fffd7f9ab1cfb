use Rattle.std.proofs.Common.{◌++◌, map, drop}
use Rattle.yd_words.specs.Each.{Each}
use Rattle.yd_ids.specs.Id.{IsSpan}
use Rattle.yd_ids.specs.Set.{HaveSameIds}
use Rattle.yd_ops.specs.Valid.{AreStructsFrom}
use Rattle.yd_ops.specs.View.{struct_value}
use Rattle.yd_merge.specs.Lending.{structs_groups}
use Rattle.yd_merge.specs.Reaching.{spans_of}
use Rattle.yd_skimming.proofs.noting.note_block.Given as goal

-- the structs that are left begin at the clock, and with their ids all are noted
abbrev pub invariant-loop-next : goal.invariant-loop-next
invariant-loop-next l = record {
  valid : AreStructsFrom l.block.client l.clock (map struct_value (drop l.next-index l.block.structs));
  spans : Each IsSpan l.spans.items;
  noted : HaveSameIds (l.spans.items ++ spans_of (structs_groups l.block.client l.clock (map struct_value (drop l.next-index l.block.structs))))
      (l.initial.spans.items ++ spans_of (structs_groups l.block.client l.block.clock (map struct_value l.block.structs)));
}
