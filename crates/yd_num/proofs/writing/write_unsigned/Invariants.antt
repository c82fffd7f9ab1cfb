use Rattle.yd_num.proofs.WritingLemmas.{SoFar}
use Rattle.yd_num.proofs.writing.write_unsigned.Given as goal

abbrev pub invariant-loop-rest : goal.invariant-loop-rest
invariant-loop-rest l = SoFar l.fn.bytes.items l.bytes.items l.fn.v l.rest

abbrev pub decreases-loop-rest : goal.decreases-loop-rest
decreases-loop-rest l = l.rest
