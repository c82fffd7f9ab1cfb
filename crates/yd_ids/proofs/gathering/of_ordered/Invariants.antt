use Rattle.yd_ids.proofs.GatheringLemmas.{IsGathering}
use Rattle.yd_ids.proofs.gathering.of_ordered.Given as goal

abbrev pub invariant-loop-span : goal.invariant-loop-span
invariant-loop-span l = IsGathering l.spans l.set.items l.span-index
