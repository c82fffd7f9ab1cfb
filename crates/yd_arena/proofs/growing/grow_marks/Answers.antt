use Rattle.std.proofs.Common.{◌∷◌, [], ap, arith, length, length-append}
use Rattle.yd_chains.proofs.LinkLemmas.{get_or_grown}
use Rattle.yd_arena.proofs.growing.grow_marks.Goals as goal

pub loop-marks-preserved : goal.loop-marks-preserved
loop-marks-preserved c = record {
  kept = omega (arith, c.loop-marks.invariant.kept, ap length c.in_ok-push.ensures.items, length-append c.loop-marks.marks.items (0 ∷ []));
  low = λ bound f i. rw c.in_ok-push.ensures.items (omega (arith, get_or_grown c.loop-marks.marks.items 0 i, c.loop-marks.invariant.low bound f i));
}
