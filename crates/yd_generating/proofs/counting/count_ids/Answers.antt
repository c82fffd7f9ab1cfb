use Rattle.std.proofs.Common.{◌∙◌, ◌+◌, ◌++◌, List, [], ◌∷◌, append_assoc, sym, ap, arith}
use Rattle.yd_ids.specs.declared.id.Span.{Span}
use Rattle.yd_checking.proofs.SpanCountLemmas.{few_deleted, ids_more}
use Rattle.yd_generating.proofs.counting.count_ids.Goals as goal

pub overflow_add-count : goal.overflow_add-count
overflow_add-count c = omega (
  arith,
  c.loop-span.invariant.counted,
  few_deleted c.args.ids.now c.loop-span.yielded c.loop-span.span-iterator c.next.new.self c.in-Some.span c.spans-span-items.ensures.maximal
      c.loop-span.invariant.all c.in-Some.ensures.steps,
)

pub loop-span-preserved : goal.loop-span-preserved
loop-span-preserved c = record {
  all = append_assoc c.loop-span.yielded (c.in-Some.span ∷ []) c.next.new.self ∙ ap (λ (back : List Span). c.loop-span.yielded ++ back) (sym
      c.in-Some.ensures.steps) ∙ c.loop-span.invariant.all;
  counted = ap (λ n. n + c.in-Some.span.len) c.loop-span.invariant.counted ∙ sym (ids_more c.loop-span.yielded c.in-Some.span);
}
