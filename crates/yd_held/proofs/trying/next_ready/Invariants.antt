use Rattle.std.proofs.Common.{length}
use Rattle.yd_held.specs.Noted.{AreNoted, StayMissing}
use Rattle.yd_held.proofs.trying.next_ready.Given as goal

abbrev pub invariant-loop-client : goal.invariant-loop-client
invariant-loop-client l = AreNoted l.vector l.received.runs l.lacks.items l.tries.items l.received.entries
    × StayMissing l.vector l.fn.lacks.items l.vector l.lacks.items

abbrev pub decreases-loop-client : goal.decreases-loop-client
decreases-loop-client l = length l.tries.items
