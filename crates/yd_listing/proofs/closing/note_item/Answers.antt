use Rattle.yd_listing.proofs.NotingLemmas.{notes_none, notes_all}
use Rattle.yd_listing.proofs.closing.note_item.Goals as goal

pub returns-in_ok-note_lists_of : goal.returns-in_ok-note_lists_of
returns-in_ok-note_lists_of c = notes_all c.args.kept.now c.args.deleted.now c.args.item c.args.queue.now c.note_lists_of.new.queue c.in_ok-note_lists_of.ensures.queues
    c.in_ok-note_lists_of.ensures.all

pub returns-else-not-has : goal.returns-else-not-has
returns-else-not-has c = notes_none c.args.kept.now c.args.deleted.now c.args.item c.args.queue.now (c.has.ensures.found.0 c.if-not-has.false)
