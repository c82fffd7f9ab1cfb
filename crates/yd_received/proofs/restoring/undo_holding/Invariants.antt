use Rattle.std.proofs.Common.{◌≡◌}
use Rattle.yd_received.specs.Received.{undone}
use Rattle.yd_received.proofs.RestoringLemmas.{walked}
use Rattle.yd_received.proofs.restoring.undo_holding.Given as goal

abbrev pub invariant-loop-at : goal.invariant-loop-at
invariant-loop-at l = l.entries ≡ walked (undone l.clocks) l.at l.fn.entries
