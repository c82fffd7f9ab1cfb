use Rattle.yd_honesty.specs.Pasts.{IsPassed}
use Rattle.yd_honesty.proofs.pasts.pass.Given as goal

abbrev pub invariant-loop-at : goal.invariant-loop-at
invariant-loop-at l = IsPassed l.received l.pasts.items l.at l.grew
