use Rattle.std.proofs.Common.{◌<◌, ◌∙◌}
use Rattle.yd_ids.specs.declared.id.Id.{Id}
use Rattle.yd_arena.specs.Arena.{next_clock}
use Rattle.yd_listing.proofs.AddingLemmas.{adding_begins, next_span, adding_goes_on, adding_ends}
use Rattle.yd_listing.proofs.naming.add_named.Goals as goal

pub loop-span-init : goal.loop-span-init
loop-span-init c = adding_begins c.args.deleted.now c.args.named.now c.into_iter-span-iterator.result c.args.spans.now.items
    (λ (x : Id). x.clock < next_clock c.args.kept.now.store.placed x.client.0)
    (c.into_iter-span-iterator.ensures.into_iter_gives ∙ c.spans-span-items.ensures.ascending) c.spans-span-items.ensures.maximal

pub add_held-requires : goal.add_held-requires
add_held-requires c = next_span c.args.deleted.now c.args.named.now c.loop-span.span-iterator c.args.spans.now.items c.loop-span.spans.items
    (λ (x : Id). x.clock < next_clock c.args.kept.now.store.placed x.client.0) c.in-Some.span c.next.new.self c.loop-span.invariant c.in-Some.ensures.steps

pub loop-span-preserved : goal.loop-span-preserved
loop-span-preserved c = adding_goes_on c.args.deleted.now c.args.named.now c.loop-span.span-iterator c.args.spans.now.items c.loop-span.spans.items
    c.add_held.new.spans.items (λ (x : Id). x.clock < next_clock c.args.kept.now.store.placed x.client.0) c.in-Some.span c.next.new.self
    c.loop-span.invariant c.in-Some.ensures.steps c.in_ok-add_held.ensures

pub returns : goal.returns
returns c = adding_ends c.args.deleted.now c.args.named.now c.loop-span.span-iterator c.args.spans.now.items c.loop-span.spans.items
    (λ (x : Id). x.clock < next_clock c.args.kept.now.store.placed x.client.0) c.in-None.ensures.steps.0 c.loop-span.invariant
