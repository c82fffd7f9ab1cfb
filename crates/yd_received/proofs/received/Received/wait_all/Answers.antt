use Rattle.std.proofs.Common.{sym, subst}
use Rattle.yd_entries.specs.Entries.{AreTaken}
use Rattle.yd_received.proofs.PlacingLemmas.{are_taken-wait}
use Rattle.yd_received.proofs.received.Received.wait_all.Goals as goal

pub invariant_of-self : goal.invariant_of-self
invariant_of-self c =
    subst (AreTaken c.self.inside.runs.items) (sym c.let_wait.ensures) (are_taken-wait c.self.inside.runs.items c.self.inside.entries c.self.invariant)
