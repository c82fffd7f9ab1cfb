use Rattle.yd_parts.proofs.FaultLemmas.{passes_fault}
use Rattle.yd_reading.proofs.TakingLemmas.{struct_fails, struct_more, structs_done}
use Rattle.yd_reading.proofs.taking.take_structs.Goals as goal

pub returns-in_err-clock-clause-fails : goal.returns-in_err-clock-clause-fails
returns-in_err-clock-clause-fails g c = passes_fault _ _ _ _ c.from_residual.ensures.1 c.in_err-clock.ensures.fails (λ fault there. struct_fails c.loop-test.true c.loop.invariant fault there)

pub loop-preserved : goal.loop-preserved
loop-preserved g c = struct_more c.loop-test.true c.loop.invariant c.in_ok-clock.ensures.took

pub returns-clause-took : goal.returns-clause-took
returns-clause-took g c = structs_done c.loop-test.false c.loop.invariant
