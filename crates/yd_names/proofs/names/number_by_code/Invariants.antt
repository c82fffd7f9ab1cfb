use Rattle.yd_names.specs.Slots.{bound_of}
use Rattle.yd_names.proofs.FindingLemmas.{NameLookedFor}
use Rattle.yd_names.proofs.names.number_by_code.Given as goal

abbrev pub invariant-loop-next : goal.invariant-loop-next
invariant-loop-next l = NameLookedFor l.names l.codes l.name l.next

abbrev pub decreases-loop-next : goal.decreases-loop-next
decreases-loop-next l = bound_of l.next
