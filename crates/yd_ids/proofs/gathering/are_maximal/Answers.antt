use Rattle.std.proofs.Common.{◌-◌, refl, arith}
use Rattle.yd_ids.proofs.GatheringLemmas.{apart_more}
use Rattle.yd_ids.proofs.gathering.are_maximal.Goals as goal

pub loop-at-preserved : goal.loop-at-preserved
loop-at-preserved c = (
  omega arith,
  apart_more c.args.spans.now c.loop-at.at (c.loop-at.at - 1) c.requires (omega arith) c.loop-at.invariant.0 (c.if-not-is_apart.ensures refl) c.loop-at.invariant.1,
)
