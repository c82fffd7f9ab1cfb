use Rattle.std.proofs.Common.{sym, ◌∙◌, true≢false}
use Rattle.yd_state.specs.Novelty.{IsKnown, first_of}
use Rattle.yd_state.proofs.NoveltyLemmas.{each_next, first_is, span_next}
use Rattle.yd_state.proofs.novelty.are_firsts_known.Goals as goal

pub is_known-requires : goal.is_known-requires
is_known-requires c = first_is c.in-Some.span
    (span_next c.args.more.now c.loop-span.yielded c.loop-span.span-iterator c.next.new.self c.in-Some.span c.spans-span-items.ensures.maximal
    c.loop-span.invariant.all c.in-Some.ensures.steps)

pub returns-then-not-is_known : goal.returns-then-not-is_known
returns-then-not-is_known c = (
  (λ t. absurd (true≢false (sym t))),
  (λ each. absurd (true≢false (sym (c.is_known.ensures.1
      (each_next (λ span. IsKnown c.args.named.now c.args.deletes.now c.args.more.now (first_of span)) c.args.more.now c.loop-span.yielded c.loop-span.span-iterator c.next.new.self
      c.in-Some.span c.loop-span.invariant.all c.in-Some.ensures.steps each)) ∙ c.if-not-is_known.true))),
)
