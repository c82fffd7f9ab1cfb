use Rattle.yd_ids.proofs.CoveringLemmas.{IsCovering}
use Rattle.yd_ids.proofs.looking.has_spans.Given as goal

abbrev pub invariant-loop-span : goal.invariant-loop-span
invariant-loop-span l = IsCovering l.spans.items l.others.items l.span-iterator
