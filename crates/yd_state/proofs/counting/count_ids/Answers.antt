use Rattle.std.proofs.Common.{arith}
use Rattle.yd_state.proofs.NamedLemmas.{span_next}
use Rattle.yd_state.proofs.WaitingLemmas.{few_ids}
use Rattle.yd_state.proofs.counting.count_ids.Goals as goal

pub get-requires : goal.get-requires
get-requires c = (span_next c.args.named.now c.loop-span.yielded c.loop-span.span-iterator c.next.new.self c.in-Some.span c.spans-span-items.ensures.maximal
    c.loop-span.invariant.all c.in-Some.ensures.steps).client

pub part_below-held-requires : goal.part_below-held-requires
part_below-held-requires c = span_next c.args.named.now c.loop-span.yielded c.loop-span.span-iterator c.next.new.self c.in-Some.span
    c.spans-span-items.ensures.maximal c.loop-span.invariant.all c.in-Some.ensures.steps

pub overflow_add-count : goal.overflow_add-count
overflow_add-count c = omega (
  arith,
  c.loop-span.invariant.counted,
  few_ids c.args.vector.now c.args.named.now c.loop-span.yielded c.loop-span.span-iterator c.next.new.self c.in-Some.span c.spans-span-items.ensures.maximal
      c.loop-span.invariant.all c.in-Some.ensures.steps,
)
