use Rattle.yd_ids.proofs.EntriesLemmas.{IsRaising}
use Rattle.yd_ids.proofs.vector.raised_by.Given as goal

abbrev pub invariant-loop-entry : goal.invariant-loop-entry
invariant-loop-entry l = IsRaising l.entries l.vector.items l.entry-index
