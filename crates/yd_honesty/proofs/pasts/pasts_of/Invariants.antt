use Rattle.yd_honesty.specs.Pasts.{AreSound}
use Rattle.yd_honesty.proofs.pasts.pasts_of.Given as goal

abbrev pub invariant-loop : goal.invariant-loop
invariant-loop l = AreSound l.received l.pasts.items
