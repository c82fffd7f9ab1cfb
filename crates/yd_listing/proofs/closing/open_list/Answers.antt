use Rattle.std.proofs.Common.{◌<◌, sym, subst}
use Rattle.yd_ids.specs.declared.id.Id.{Id}
use Rattle.yd_ids.specs.Id.{IsSpan}
use Rattle.yd_ids.specs.Span.{InSpan}
use Rattle.yd_ids.specs.Set.{HasId}
use Rattle.yd_listing.proofs.WalkLemmas.{place_told}
use Rattle.yd_arena.specs.Arena.{places_in}
use Rattle.yd_listing.specs.Steps.{Adds}
use Rattle.yd_listing.specs.Closing.{NotesLists}
use Rattle.yd_listing.proofs.RunLemmas.{run_is_span}
use Rattle.yd_listing.proofs.OpeningLemmas.{IsOpening, places_to_come, opening_begins, next_on_list, opening_goes_on, fewer_to_come, opening_ends}
use Rattle.yd_listing.proofs.closing.open_list.Goals as goal

pub loop-next-init : goal.loop-next-init
loop-next-init c = opening_begins c.args.kept.now c.args.deleted.now c.args.list c.args.spans.now.items c.args.queue.now c.first-next.result
    (rw c.store-store.ensures.value at c.first-next.ensures)

pub span_at-span-requires-clause-place : goal.span_at-span-requires-clause-place
span_at-span-requires-clause-place c = rw c.store-store.ensures.value (c.store-store.ensures.lists.within c.args.list c.in-Some.place c.requires.list
    (next_on_list c.args.kept.now c.args.deleted.now c.args.list c.args.spans.now.items c.args.queue.now c.store-store.ensures.lists c.requires.list c.loop-next.spans.items
    c.loop-next.queue c.in-Some.place (subst (IsOpening c.args.kept.now c.args.deleted.now c.args.list c.args.spans.now.items c.loop-next.spans.items c.args.queue.now c.loop-next.queue)
    c.in-Some.is c.loop-next.invariant)))

pub span_at-span-requires-clause-told : goal.span_at-span-requires-clause-told
span_at-span-requires-clause-told c = rw c.store-store.ensures.value (place_told c.args.kept.now.store c.args.list c.in-Some.place c.store-store.ensures.lists c.requires.list
    (next_on_list c.args.kept.now c.args.deleted.now c.args.list c.args.spans.now.items c.args.queue.now c.store-store.ensures.lists c.requires.list c.loop-next.spans.items
    c.loop-next.queue c.in-Some.place (subst (IsOpening c.args.kept.now c.args.deleted.now c.args.list c.args.spans.now.items c.loop-next.spans.items c.args.queue.now c.loop-next.queue)
    c.in-Some.is c.loop-next.invariant))
    (c.requires.told.told c.args.list c.requires.list))

pub add_span-requires : goal.add_span-requires
add_span-requires c = subst IsSpan (sym (rw c.store-store.ensures.value at c.span_at-span.ensures))
    (run_is_span c.args.kept.now c.args.list c.in-Some.place c.requires.told c.store-store.ensures.arena c.store-store.ensures.lists c.requires.list
    (next_on_list c.args.kept.now c.args.deleted.now c.args.list c.args.spans.now.items c.args.queue.now c.store-store.ensures.lists c.requires.list c.loop-next.spans.items
    c.loop-next.queue c.in-Some.place (subst (IsOpening c.args.kept.now c.args.deleted.now c.args.list c.args.spans.now.items c.loop-next.spans.items c.args.queue.now c.loop-next.queue)
    c.in-Some.is c.loop-next.invariant)))

pub note_lists-requires : goal.note_lists-requires
note_lists-requires c = subst IsSpan (sym (rw c.store-store.ensures.value at c.span_at-span.ensures))
    (run_is_span c.args.kept.now c.args.list c.in-Some.place c.requires.told c.store-store.ensures.arena c.store-store.ensures.lists c.requires.list
    (next_on_list c.args.kept.now c.args.deleted.now c.args.list c.args.spans.now.items c.args.queue.now c.store-store.ensures.lists c.requires.list c.loop-next.spans.items
    c.loop-next.queue c.in-Some.place (subst (IsOpening c.args.kept.now c.args.deleted.now c.args.list c.args.spans.now.items c.loop-next.spans.items c.args.queue.now c.loop-next.queue)
    c.in-Some.is c.loop-next.invariant)))

pub next-next-requires : goal.next-next-requires
next-next-requires c = rw c.store-store.ensures.value (c.store-store.ensures.lists.within c.args.list c.in-Some.place c.requires.list
    (next_on_list c.args.kept.now c.args.deleted.now c.args.list c.args.spans.now.items c.args.queue.now c.store-store.ensures.lists c.requires.list c.loop-next.spans.items
    c.loop-next.queue c.in-Some.place (subst (IsOpening c.args.kept.now c.args.deleted.now c.args.list c.args.spans.now.items c.loop-next.spans.items c.args.queue.now c.loop-next.queue)
    c.in-Some.is c.loop-next.invariant)))

pub loop-next-preserved : goal.loop-next-preserved
loop-next-preserved c = opening_goes_on c.args.kept.now c.args.deleted.now c.args.list c.args.spans.now.items c.args.queue.now c.store-store.ensures.lists c.requires.list
    c.loop-next.spans.items c.add_span.new.spans.items c.loop-next.queue c.note_lists.new.queue c.in-Some.place c.next-next.result
    (subst (IsOpening c.args.kept.now c.args.deleted.now c.args.list c.args.spans.now.items c.loop-next.spans.items c.args.queue.now c.loop-next.queue)
    c.in-Some.is c.loop-next.invariant)
    (subst (λ s. Adds (InSpan s) c.loop-next.spans.items c.add_span.new.spans.items) (rw c.store-store.ensures.value at c.span_at-span.ensures) c.in_ok-add_span.ensures.adds)
    (subst (λ s. (x : Id) → InSpan s x → HasId c.add_span.new.spans.items x) (rw c.store-store.ensures.value at c.span_at-span.ensures) c.in_ok-add_span.ensures.all)
    (subst (λ s. NotesLists c.args.kept.now c.args.deleted.now (InSpan s) c.loop-next.queue c.note_lists.new.queue) (rw c.store-store.ensures.value at c.span_at-span.ensures) c.in_ok-note_lists.ensures)
    (rw c.store-store.ensures.value at c.next-next.ensures.value)

pub loop-next-smaller : goal.loop-next-smaller
loop-next-smaller c = subst (λ z. places_to_come (places_in c.args.kept.now.store.placed c.args.list) c.next-next.result
    < places_to_come (places_in c.args.kept.now.store.placed c.args.list) z) (sym c.in-Some.is)
    (fewer_to_come c.args.kept.now c.args.deleted.now c.args.list c.args.spans.now.items c.args.queue.now c.store-store.ensures.lists c.requires.list
    c.loop-next.spans.items c.add_span.new.spans.items c.loop-next.queue c.note_lists.new.queue c.in-Some.place c.next-next.result
    (subst (IsOpening c.args.kept.now c.args.deleted.now c.args.list c.args.spans.now.items c.loop-next.spans.items c.args.queue.now c.loop-next.queue)
    c.in-Some.is c.loop-next.invariant)
    (subst (λ s. Adds (InSpan s) c.loop-next.spans.items c.add_span.new.spans.items) (rw c.store-store.ensures.value at c.span_at-span.ensures) c.in_ok-add_span.ensures.adds)
    (subst (λ s. (x : Id) → InSpan s x → HasId c.add_span.new.spans.items x) (rw c.store-store.ensures.value at c.span_at-span.ensures) c.in_ok-add_span.ensures.all)
    (subst (λ s. NotesLists c.args.kept.now c.args.deleted.now (InSpan s) c.loop-next.queue c.note_lists.new.queue) (rw c.store-store.ensures.value at c.span_at-span.ensures) c.in_ok-note_lists.ensures)
    (rw c.store-store.ensures.value at c.next-next.ensures.value))

pub returns : goal.returns
returns c = opening_ends c.args.kept.now c.args.deleted.now c.args.list c.args.spans.now.items c.args.queue.now c.store-store.ensures.lists c.requires.list c.loop-next.spans.items c.loop-next.queue
    (subst (IsOpening c.args.kept.now c.args.deleted.now c.args.list c.args.spans.now.items c.loop-next.spans.items c.args.queue.now c.loop-next.queue)
    c.in_default.is c.loop-next.invariant)
