use Rattle.std.proofs.Common.{◌≡◌, ◌∙◌, ◌+◌, ◌<◌, suc, sym, subst, arith}
use Rattle.yd_ids.specs.Set.{HasId}
use Rattle.yd_arena.specs.Arena.{count_of}
use Rattle.yd_listing.specs.Closing.{NotesLists}
use Rattle.yd_listing.proofs.OpeningLemmas.{IsClosing, closing_begins, list_within, at_inside, closing_goes_on, closing_ends}
use Rattle.yd_listing.proofs.closing.close.Goals as goal

pub loop-list-init : goal.loop-list-init
loop-list-init c = closing_begins c.args.kept.now c.args.deleted.now c.args.spans.now.items c.note_all.new.queue
    (subst (λ q. NotesLists c.args.kept.now c.args.deleted.now (HasId c.args.spans.now.items) q c.note_all.new.queue) c.new-queue.ensures
    (rw c.deref.ensures.value at c.in_ok-note_all.ensures))

pub open_list-requires-clause-list : goal.open_list-requires-clause-list
open_list-requires-clause-list c = list_within c.args.kept.now c.args.deleted.now c.args.spans.now.items c.loop-list.spans.items c.loop-list.queue c.loop-list.at c.loop-list.invariant c.in-Some.list (sym c.get.ensures.value ∙ c.in-Some.is)

pub loop-list-preserved : goal.loop-list-preserved
loop-list-preserved c =
    let one : suc c.loop-list.at ≡ c.loop-list.at + 1 = omega arith in
    subst (IsClosing c.args.kept.now c.args.deleted.now c.args.spans.now.items c.open_list.new.spans.items c.open_list.new.queue) one
    (closing_goes_on c.args.kept.now c.args.deleted.now c.args.spans.now.items c.loop-list.spans.items c.loop-list.queue c.loop-list.at c.loop-list.invariant
    c.in-Some.list (sym c.get.ensures.value ∙ c.in-Some.is) c.open_list.new.spans.items c.open_list.new.queue c.in_ok-open_list.ensures)

pub loop-list-smaller : goal.loop-list-smaller
loop-list-smaller c =
    let inside : c.loop-list.at < count_of c.args.kept.now.store.placed = at_inside c.args.kept.now c.args.deleted.now c.args.spans.now.items c.loop-list.spans.items c.loop-list.queue c.loop-list.at c.loop-list.invariant
    c.in-Some.list (sym c.get.ensures.value ∙ c.in-Some.is) c.get.ensures.distinct in
    omega (arith, inside)

pub returns : goal.returns
returns c = closing_ends c.args.kept.now c.args.deleted.now c.args.spans.now.items c.loop-list.spans.items c.loop-list.queue c.loop-list.at c.loop-list.invariant c.requires.spans
    (sym c.get.ensures.value ∙ c.in_default.is)
