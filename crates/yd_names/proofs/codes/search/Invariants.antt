use Rattle.yd_names.specs.Slots.{bound_of}
use Rattle.yd_names.proofs.SearchLemmas.{IsSearching}
use Rattle.yd_names.proofs.codes.search.Given as goal

abbrev pub invariant-loop-next : goal.invariant-loop-next
invariant-loop-next l = IsSearching l.codes l.before l.code l.fn.from l.next

abbrev pub decreases-loop-next : goal.decreases-loop-next
decreases-loop-next l = bound_of l.next
