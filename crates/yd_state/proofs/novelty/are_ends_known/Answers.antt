use Rattle.std.proofs.Common.{sym, ◌∙◌, arith, true≢false}
use Rattle.yd_state.specs.Novelty.{IsKnown, id_behind}
use Rattle.yd_state.proofs.NoveltyLemmas.{each_next, behind_is, span_next}
use Rattle.yd_state.proofs.novelty.are_ends_known.Goals as goal

pub overflow_add-id : goal.overflow_add-id
overflow_add-id c = omega (
  arith,
  (span_next c.args.spans.now c.loop-span.yielded c.loop-span.span-iterator c.next.new.self c.in-Some.span
      c.spans-span-items.ensures.maximal c.loop-span.invariant.all c.in-Some.ensures.steps).end,
)

pub is_known-requires : goal.is_known-requires
is_known-requires c = behind_is c.in-Some.span
    (span_next c.args.spans.now c.loop-span.yielded c.loop-span.span-iterator c.next.new.self c.in-Some.span c.spans-span-items.ensures.maximal
    c.loop-span.invariant.all c.in-Some.ensures.steps)

pub returns-then-not-is_known : goal.returns-then-not-is_known
returns-then-not-is_known c = (
  (λ t. absurd (true≢false (sym t))),
  (λ each. absurd (true≢false (sym (c.is_known.ensures.1
      (each_next (λ span. IsKnown c.args.named.now c.args.deletes.now c.args.more.now (id_behind span)) c.args.spans.now c.loop-span.yielded
      c.loop-span.span-iterator c.next.new.self
      c.in-Some.span c.loop-span.invariant.all c.in-Some.ensures.steps each)) ∙ c.if-not-is_known.true))),
)
