use Rattle.std.proofs.Common.{◌≡◌, ◌<◌, ◌++◌, ◌+◌, map, length, get_or, sym, ap, ◌∙◌, arith}
use Rattle.yd_ops.specs.View.{struct_value}
use Rattle.yd_merge.specs.Lending.{struct_groups, structs_groups}
use Rattle.yd_merge.specs.Reaching.{spans_of}
use Rattle.yd_skimming.proofs.NotingLemmas.{noted_next, structs_behind}
use Rattle.yd_skimming.proofs.noting.note_block.Goals as goal

pub loop-next-preserved : goal.loop-next-preserved
loop-next-preserved c = record {
  valid = structs_behind c.args.block.now.client c.loop-next.clock c.len-clock.result c.args.block.now.structs c.loop-next.next-index c.next-item.result c.len-clock.ensures inside here c.loop-next.invariant.valid;
  spans = c.note_struct.ensures.spans;
  noted = noted_next (λ structs. structs_groups c.args.block.now.client c.loop-next.clock (map struct_value structs))
      (λ structs. structs_groups c.args.block.now.client (c.loop-next.clock + c.len-clock.result) (map struct_value structs))
      (struct_groups c.args.block.now.client c.loop-next.clock (struct_value c.next-item.result)) c.args.block.now.structs c.loop-next.next-index c.next-item.result
      c.loop-next.spans.items c.note_struct.new.spans.items
      (c.args.spans.now.items ++ spans_of (structs_groups c.args.block.now.client c.args.block.now.clock (map struct_value c.args.block.now.structs)))
      (λ rest. ap (λ len. struct_groups c.args.block.now.client c.loop-next.clock (struct_value c.next-item.result)
      ++ structs_groups c.args.block.now.client (c.loop-next.clock + len) (map struct_value rest)) (sym c.len-clock.ensures))
      inside here c.in_ok-note_struct.ensures.noted c.loop-next.invariant.noted;
}
  where
    inside : c.loop-next.next-index < length c.args.block.now.structs
    inside = omega (arith, c.loop-next-test.true, ap length c.as_slice-next-items.ensures)

    here : c.next-item.result ≡ get_or c.args.block.now.structs c.loop-next.next-index c.next-item.result
    here = c.next-item.is ∙ ap (λ ss. get_or ss c.loop-next.next-index c.next-item.result) c.as_slice-next-items.ensures
