use Rattle.yd_state.proofs.NamedLemmas.{span_next}
use Rattle.yd_making.proofs.basis.Basis.spans_fault.Goals as goal

pub get-requires : goal.get-requires
get-requires c = (span_next c.args.spans.now c.loop-span.yielded c.loop-span.span-iterator c.next.new.self c.in-Some.span c.spans-span-items.ensures.maximal
    c.loop-span.invariant.all c.in-Some.ensures.steps).client

pub span_fault-requires : goal.span_fault-requires
span_fault-requires c = span_next c.args.spans.now c.loop-span.yielded c.loop-span.span-iterator c.next.new.self c.in-Some.span c.spans-span-items.ensures.maximal
    c.loop-span.invariant.all c.in-Some.ensures.steps
