use Rattle.std.proofs.Common.{inl, inr, ap, ◌∙◌}
use Rattle.yd_ids.specs.Span.{InSpan}
use Rattle.yd_arena.specs.Arena.{next_clock}
use Rattle.yd_store.specs.Store.{Stored}
use Rattle.yd_listing.proofs.AddingLemmas.{adds_none, held_adds}
use Rattle.yd_listing.proofs.naming.add_held.Goals as goal

pub returns-in_ok-add_span : goal.returns-in_ok-add_span
returns-in_ok-add_span c = held_adds c.args.deleted.now c.args.spans.now.items c.add_span.new.spans.items c.args.span c.span_below-held.result c.next_clock.result
    (next_clock c.args.kept.now.store.placed) c.span_below-held.ensures (c.next_clock.ensures.value ∙ ap (λ (s : Stored). next_clock s.placed c.args.span.client.0) c.store.ensures.value) c.in_ok-add_span.ensures.adds
    (λ x i. inr (c.in_ok-add_span.ensures.all x i))

pub returns-else-not-branch : goal.returns-else-not-branch
returns-else-not-branch c = held_adds c.args.deleted.now c.args.spans.now.items c.args.spans.now.items c.args.span c.span_below-held.result c.next_clock.result
    (next_clock c.args.kept.now.store.placed) c.span_below-held.ensures (c.next_clock.ensures.value ∙ ap (λ (s : Stored). next_clock s.placed c.args.span.client.0) c.store.ensures.value) (adds_none (InSpan c.span_below-held.result) c.args.spans.now.items)
    (λ x i. inl (c.in_ok-has_span.ensures c.if-not-branch.false x i))
