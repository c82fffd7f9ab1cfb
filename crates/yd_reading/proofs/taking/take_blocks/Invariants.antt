use Rattle.yd_reading.proofs.TakingLemmas.{BlocksSoFar}
use Rattle.yd_reading.proofs.taking.take_blocks.Given as goal

abbrev pub invariant-loop : goal.invariant-loop
invariant-loop g l = BlocksSoFar g.R.FieldReader.field_at g.R.FieldReader.spot_of l.count l.counter l.fn.most l.still l.fn.reader l.reader (g.T.StructTaker.took l.fn.taker) (g.T.StructTaker.took l.taker)
