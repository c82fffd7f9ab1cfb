use Rattle.std.proofs.Common.{◌<◌, ◌∙◌, sym, ap, subst}
use Rattle.yd_ids.specs.declared.id.Id.{Id}
use Rattle.yd_ids.specs.declared.id.Span.{Span}
use Rattle.yd_ids.specs.Id.{IsId, IsSpan}
use Rattle.yd_ids.specs.Set.{HasId}
use Rattle.yd_listing.proofs.WalkLemmas.{place_told}
use Rattle.yd_arena.specs.Arena.{places_in}
use Rattle.yd_listing.specs.Steps.{last_of_span, InSpanBut, Adds}
use Rattle.yd_listing.proofs.RunLemmas.{run_is_span, last_is_id}
use Rattle.yd_listing.proofs.OutlivingLemmas.{IsBacking, places_to_pass, backing_begins, back_on_list, backing_stops, backing_goes_on, fewer_to_pass, backing_ends}
use Rattle.yd_listing.proofs.outliving.add_back.Goals as goal

pub loop-next-init : goal.loop-next-init
loop-next-init c = backing_begins c.args.kept.now c.args.list c.args.last c.args.spans.now.items c.last-next.result
    (rw c.store-store.ensures.value at c.last-next.ensures)

pub span_at-span-requires-clause-place : goal.span_at-span-requires-clause-place
span_at-span-requires-clause-place c = rw c.store-store.ensures.value (c.store-store.ensures.lists.within c.args.list c.in-Some.place c.requires.list
    (back_on_list c.args.kept.now c.args.deleted.now c.args.list c.args.last c.args.spans.now.items c.store-store.ensures.lists c.requires.list c.requires.last
    c.loop-next.spans.items c.in-Some.place (subst (IsBacking c.args.kept.now c.args.list c.args.last c.args.spans.now.items c.loop-next.spans.items) c.in-Some.is c.loop-next.invariant)))

pub span_at-span-requires-clause-told : goal.span_at-span-requires-clause-told
span_at-span-requires-clause-told c = rw c.store-store.ensures.value (place_told c.args.kept.now.store c.args.list c.in-Some.place c.store-store.ensures.lists c.requires.list
    (back_on_list c.args.kept.now c.args.deleted.now c.args.list c.args.last c.args.spans.now.items c.store-store.ensures.lists c.requires.list c.requires.last
    c.loop-next.spans.items c.in-Some.place (subst (IsBacking c.args.kept.now c.args.list c.args.last c.args.spans.now.items c.loop-next.spans.items) c.in-Some.is c.loop-next.invariant))
    (c.requires.told.told c.args.list c.requires.list))

pub last_id-requires-clause-is_span : goal.last_id-requires-clause-is_span
last_id-requires-clause-is_span c = (subst IsSpan (sym (rw c.store-store.ensures.value at c.span_at-span.ensures))
    (run_is_span c.args.kept.now c.args.list c.in-Some.place c.requires.told c.store-store.ensures.arena c.store-store.ensures.lists c.requires.list
    (back_on_list c.args.kept.now c.args.deleted.now c.args.list c.args.last c.args.spans.now.items c.store-store.ensures.lists c.requires.list c.requires.last
    c.loop-next.spans.items c.in-Some.place (subst (IsBacking c.args.kept.now c.args.list c.args.last c.args.spans.now.items c.loop-next.spans.items) c.in-Some.is c.loop-next.invariant))))

pub last_id-requires-clause-some : goal.last_id-requires-clause-some
last_id-requires-clause-some c = (subst (λ (s : Span). 0 < s.len) (sym (rw c.store-store.ensures.value at c.span_at-span.ensures)) (c.store-store.ensures.lists.filled c.args.list c.in-Some.place c.requires.list
    (back_on_list c.args.kept.now c.args.deleted.now c.args.list c.args.last c.args.spans.now.items c.store-store.ensures.lists c.requires.list c.requires.last
    c.loop-next.spans.items c.in-Some.place (subst (IsBacking c.args.kept.now c.args.list c.args.last c.args.spans.now.items c.loop-next.spans.items) c.in-Some.is c.loop-next.invariant))))

pub has-requires : goal.has-requires
has-requires c = subst IsId (sym c.last_id.ensures) (last_is_id c.span_at-span.result
    (subst IsSpan (sym (rw c.store-store.ensures.value at c.span_at-span.ensures))
    (run_is_span c.args.kept.now c.args.list c.in-Some.place c.requires.told c.store-store.ensures.arena c.store-store.ensures.lists c.requires.list
    (back_on_list c.args.kept.now c.args.deleted.now c.args.list c.args.last c.args.spans.now.items c.store-store.ensures.lists c.requires.list c.requires.last
    c.loop-next.spans.items c.in-Some.place (subst (IsBacking c.args.kept.now c.args.list c.args.last c.args.spans.now.items c.loop-next.spans.items) c.in-Some.is c.loop-next.invariant))))
    (subst (λ (s : Span). 0 < s.len) (sym (rw c.store-store.ensures.value at c.span_at-span.ensures)) (c.store-store.ensures.lists.filled c.args.list c.in-Some.place c.requires.list
    (back_on_list c.args.kept.now c.args.deleted.now c.args.list c.args.last c.args.spans.now.items c.store-store.ensures.lists c.requires.list c.requires.last
    c.loop-next.spans.items c.in-Some.place (subst (IsBacking c.args.kept.now c.args.list c.args.last c.args.spans.now.items c.loop-next.spans.items) c.in-Some.is c.loop-next.invariant)))))

pub add_but-requires : goal.add_but-requires
add_but-requires c = (subst IsSpan (sym (rw c.store-store.ensures.value at c.span_at-span.ensures))
    (run_is_span c.args.kept.now c.args.list c.in-Some.place c.requires.told c.store-store.ensures.arena c.store-store.ensures.lists c.requires.list
    (back_on_list c.args.kept.now c.args.deleted.now c.args.list c.args.last c.args.spans.now.items c.store-store.ensures.lists c.requires.list c.requires.last
    c.loop-next.spans.items c.in-Some.place (subst (IsBacking c.args.kept.now c.args.list c.args.last c.args.spans.now.items c.loop-next.spans.items) c.in-Some.is c.loop-next.invariant))))

pub returns-then-has-clause-outlived : goal.returns-then-has-clause-outlived
returns-then-has-clause-outlived c = backing_stops c.args.kept.now c.args.deleted.now c.args.list c.args.last c.args.spans.now.items c.store-store.ensures.lists c.requires.list c.requires.last
    c.loop-next.spans.items c.in-Some.place (subst (IsBacking c.args.kept.now c.args.list c.args.last c.args.spans.now.items c.loop-next.spans.items) c.in-Some.is c.loop-next.invariant)
    (subst (HasId c.args.deleted.now) (c.last_id.ensures ∙ ap last_of_span (rw c.store-store.ensures.value at c.span_at-span.ensures)) (c.has.ensures.found.0 c.if-has.true))

pub returns-then-has-clause-adds : goal.returns-then-has-clause-adds
returns-then-has-clause-adds c = c.loop-next.invariant.adds

pub prev-next-requires : goal.prev-next-requires
prev-next-requires c = rw c.store-store.ensures.value (c.store-store.ensures.lists.within c.args.list c.in-Some.place c.requires.list
    (back_on_list c.args.kept.now c.args.deleted.now c.args.list c.args.last c.args.spans.now.items c.store-store.ensures.lists c.requires.list c.requires.last
    c.loop-next.spans.items c.in-Some.place (subst (IsBacking c.args.kept.now c.args.list c.args.last c.args.spans.now.items c.loop-next.spans.items) c.in-Some.is c.loop-next.invariant)))

pub loop-next-preserved : goal.loop-next-preserved
loop-next-preserved c = backing_goes_on c.args.kept.now c.args.deleted.now c.args.list c.args.last c.args.spans.now.items c.store-store.ensures.lists c.requires.list c.requires.last
    c.loop-next.spans.items c.in-Some.place (subst (IsBacking c.args.kept.now c.args.list c.args.last c.args.spans.now.items c.loop-next.spans.items) c.in-Some.is c.loop-next.invariant) c.add_but.new.spans.items c.prev-next.result
    (subst (λ s. Adds (InSpanBut s c.args.last) c.loop-next.spans.items c.add_but.new.spans.items) (rw c.store-store.ensures.value at c.span_at-span.ensures) c.in_ok-add_but.ensures.adds)
    (subst (λ s. (x : Id) → InSpanBut s c.args.last x → HasId c.add_but.new.spans.items x) (rw c.store-store.ensures.value at c.span_at-span.ensures) c.in_ok-add_but.ensures.all)
    (rw c.store-store.ensures.value at c.prev-next.ensures.value)

pub loop-next-smaller : goal.loop-next-smaller
loop-next-smaller c = subst (λ z. places_to_pass (places_in c.args.kept.now.store.placed c.args.list) c.prev-next.result
    < places_to_pass (places_in c.args.kept.now.store.placed c.args.list) z) (sym c.in-Some.is)
    (fewer_to_pass c.args.kept.now c.args.deleted.now c.args.list c.args.last c.args.spans.now.items c.store-store.ensures.lists c.requires.list c.requires.last
    c.loop-next.spans.items c.in-Some.place (subst (IsBacking c.args.kept.now c.args.list c.args.last c.args.spans.now.items c.loop-next.spans.items) c.in-Some.is c.loop-next.invariant) c.add_but.new.spans.items c.prev-next.result
    (subst (λ s. Adds (InSpanBut s c.args.last) c.loop-next.spans.items c.add_but.new.spans.items) (rw c.store-store.ensures.value at c.span_at-span.ensures) c.in_ok-add_but.ensures.adds)
    (subst (λ s. (x : Id) → InSpanBut s c.args.last x → HasId c.add_but.new.spans.items x) (rw c.store-store.ensures.value at c.span_at-span.ensures) c.in_ok-add_but.ensures.all)
    (rw c.store-store.ensures.value at c.prev-next.ensures.value))

pub returns-clause-adds : goal.returns-clause-adds
returns-clause-adds c = c.loop-next.invariant.adds

pub returns-clause-outlived : goal.returns-clause-outlived
returns-clause-outlived c = backing_ends c.args.kept.now c.args.deleted.now c.args.list c.args.last c.args.spans.now.items c.store-store.ensures.lists c.requires.list c.requires.last c.loop-next.spans.items
    (subst (IsBacking c.args.kept.now c.args.list c.args.last c.args.spans.now.items c.loop-next.spans.items) c.in_default.is c.loop-next.invariant)
