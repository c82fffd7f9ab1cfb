use Rattle.std.proofs.Common.{◌≡◌, ◌++◌, map, drop}
use Rattle.yd_ops.specs.Valid.{AreStructsFrom}
use Rattle.yd_ops.specs.View.{struct_value}
use Rattle.yd_ops.specs.Deletes.{structs_spans}
use Rattle.yd_agreement.proofs.less.note_block.Given as goal

-- the structs that are left begin at the clock, and with those of them all of the structs are noted
abbrev pub invariant-loop-next : goal.invariant-loop-next
invariant-loop-next l = record {
  valid : AreStructsFrom l.block.client l.clock (map struct_value (drop l.next-index l.block.structs));
  left : l.spans.items ++ structs_spans l.block.client l.clock (map struct_value (drop l.next-index l.block.structs))
      ≡ l.initial.spans.items ++ structs_spans l.block.client l.block.clock (map struct_value l.block.structs);
}
