use Rattle.yd_arena.specs.Arena.{places_in}
use Rattle.yd_listing.proofs.OutlivingLemmas.{IsBacking, places_to_pass}
use Rattle.yd_listing.proofs.outliving.add_back.Given as goal

abbrev pub invariant-loop-next : goal.invariant-loop-next
invariant-loop-next l = IsBacking l.kept l.list l.fn.last l.initial.spans.items l.spans.items l.next

abbrev pub decreases-loop-next : goal.decreases-loop-next
decreases-loop-next l = places_to_pass (places_in l.kept.store.placed l.list) l.next
