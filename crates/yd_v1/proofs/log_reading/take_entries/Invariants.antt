use Rattle.std.proofs.Common.{◌-◌, length}
use Rattle.yd_v1.proofs.LogTakingLemmas.{TakesSoFar}
use Rattle.yd_v1.proofs.log_reading.take_entries.Given as goal

abbrev pub invariant-loop : goal.invariant-loop
invariant-loop g l = TakesSoFar l.bytes (length l.bytes - l.counter) l.parts (g.T.UpdateTaker.took l.fn.taker) (g.T.UpdateTaker.took l.taker)
