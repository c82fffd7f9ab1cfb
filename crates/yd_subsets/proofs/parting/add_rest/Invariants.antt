use Rattle.yd_subsets.proofs.CutLemmas.{IsCutting}
use Rattle.yd_subsets.proofs.parting.add_rest.Given as goal

abbrev pub invariant-loop-cut : goal.invariant-loop-cut
invariant-loop-cut l = IsCutting l.initial.rest.items l.fn.span l.other l.cut-iterator l.rest.items l.left
