use Rattle.yd_parts.proofs.FaultLemmas.{passes_fault}
use Rattle.yd_reading.proofs.TakingLemmas.{block_fails, block_more, blocks_done}
use Rattle.yd_reading.proofs.taking.take_blocks.Goals as goal

pub returns-in_err-still-clause-fails : goal.returns-in_err-still-clause-fails
returns-in_err-still-clause-fails g c =
    passes_fault _ _ _ _ c.from_residual.ensures.1 (c.in_err-still.ensures.fails c.loop.invariant.blocks) (λ fault there. block_fails c.loop-test.true c.loop.invariant fault there)

pub loop-preserved : goal.loop-preserved
loop-preserved g c = block_more c.loop-test.true c.loop.invariant c.in_ok-still.ensures.took

pub returns-clause-took : goal.returns-clause-took
returns-clause-took g c = blocks_done c.loop-test.false c.loop.invariant
