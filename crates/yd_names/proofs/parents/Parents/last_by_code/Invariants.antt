use Rattle.yd_names.specs.Slots.{bound_of}
use Rattle.yd_names.proofs.ParentsLemmas.{GroupLookedFor}
use Rattle.yd_names.proofs.parents.Parents.last_by_code.Given as goal

abbrev pub invariant-loop-next : goal.invariant-loop-next
invariant-loop-next l = GroupLookedFor l.names l.self.groups l.parent l.next

abbrev pub decreases-loop-next : goal.decreases-loop-next
decreases-loop-next l = bound_of l.next
