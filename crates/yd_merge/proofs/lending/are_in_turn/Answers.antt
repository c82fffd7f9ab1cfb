use Rattle.std.proofs.Common.{refl, arith}
use Rattle.yd_merge.proofs.TurnLemmas.{turn_end}
use Rattle.yd_merge.proofs.lending.are_in_turn.Goals as goal

pub returns : goal.returns
returns c = ((λ e. turn_end c.args.lents.now c.loop-at.at (omega (arith, c.loop-at-test.false)) c.loop-at.invariant.turn), (λ turn. refl))
