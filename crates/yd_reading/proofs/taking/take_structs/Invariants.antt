use Rattle.yd_reading.proofs.TakingLemmas.{StructsSoFar}
use Rattle.yd_reading.proofs.taking.take_structs.Given as goal

abbrev pub invariant-loop : goal.invariant-loop
invariant-loop g l = StructsSoFar g.R.FieldReader.field_at g.R.FieldReader.spot_of l.fn.id l.count l.counter l.clock l.fn.reader l.reader (g.T.StructTaker.took l.fn.taker) (g.T.StructTaker.took l.taker)
