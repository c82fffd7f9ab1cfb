use Rattle.std.proofs.Common.{◌≡◌}
use Rattle.yd_entries.specs.declared.entry.Entry.{Entry}
use Rattle.yd_entries.specs.declared.place.Place.TheVariants.{Waits}
use Rattle.yd_received.specs.Received.{with_place}
use Rattle.yd_received.proofs.RestoringLemmas.{walked}
use Rattle.yd_received.proofs.restoring.let_wait.Given as goal

abbrev pub invariant-loop-at : goal.invariant-loop-at
invariant-loop-at l = l.entries ≡ walked (λ (t : Entry). with_place t Waits) l.at l.fn.entries
