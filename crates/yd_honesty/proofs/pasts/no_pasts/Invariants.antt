use Rattle.std.proofs.Common.{◌≡◌, [], replicate}
use Rattle.yd_honesty.proofs.pasts.no_pasts.Given as goal

abbrev pub invariant-loop : goal.invariant-loop
invariant-loop l = l.pasts.items ≡ replicate l.counter []
