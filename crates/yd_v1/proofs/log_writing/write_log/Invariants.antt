use Rattle.yd_v1.proofs.LogWrittenLemmas.{WrittenFront}
use Rattle.yd_v1.proofs.log_writing.write_log.Given as goal

abbrev pub invariant-loop-update : goal.invariant-loop-update
invariant-loop-update l = WrittenFront l.updates l.update-index l.log
