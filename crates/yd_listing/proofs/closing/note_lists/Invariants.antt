use Rattle.yd_listing.proofs.NotingLemmas.{IsNotedTo}
use Rattle.yd_listing.proofs.closing.note_lists.Given as goal

abbrev pub invariant-loop-item : goal.invariant-loop-item
invariant-loop-item l = IsNotedTo l.kept l.deleted l.fn.span l.rest l.initial.queue l.queue

abbrev pub decreases-loop-item : goal.decreases-loop-item
decreases-loop-item l = l.rest.len
