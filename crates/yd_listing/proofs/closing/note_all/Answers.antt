use Rattle.std.proofs.Common.{take, sym, subst}
use Rattle.std.proofs.lemmas.List.{take_more}
use Rattle.yd_ids.specs.Set.{HasId}
use Rattle.yd_listing.specs.Closing.{NotesLists}
use Rattle.yd_listing.proofs.NotingLemmas.{spans_begin, spans_go_on}
use Rattle.yd_listing.proofs.closing.note_all.Goals as goal

pub loop-span-init : goal.loop-span-init
loop-span-init c = spans_begin c.args.kept.now c.args.deleted.now c.args.queue.now

pub loop-span-preserved : goal.loop-span-preserved
loop-span-preserved c = subst (λ spans. NotesLists c.args.kept.now c.args.deleted.now (HasId spans) c.args.queue.now c.note_lists.new.queue)
    (sym (take_more c.args.spans.now c.loop-span.span-index _ c.loop-span-test.true))
    (spans_go_on c.args.kept.now c.args.deleted.now (take c.loop-span.span-index c.args.spans.now) _ c.args.queue.now c.loop-span.queue c.note_lists.new.queue
    c.loop-span.invariant c.in_ok-note_lists.ensures)
