use Rattle.yd_subsets.proofs.CutLemmas.{IsParting}
use Rattle.yd_subsets.proofs.parting.difference.Given as goal

abbrev pub invariant-loop-span : goal.invariant-loop-span
invariant-loop-span l = IsParting l.set l.other l.span-iterator l.rest.items
