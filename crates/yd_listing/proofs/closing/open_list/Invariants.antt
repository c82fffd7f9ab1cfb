use Rattle.yd_arena.specs.Arena.{places_in}
use Rattle.yd_listing.proofs.OpeningLemmas.{IsOpening, places_to_come}
use Rattle.yd_listing.proofs.closing.open_list.Given as goal

abbrev pub invariant-loop-next : goal.invariant-loop-next
invariant-loop-next l = IsOpening l.kept l.deleted l.list l.initial.spans.items l.spans.items l.initial.queue l.queue l.next

abbrev pub decreases-loop-next : goal.decreases-loop-next
decreases-loop-next l = places_to_come (places_in l.kept.store.placed l.list) l.next
