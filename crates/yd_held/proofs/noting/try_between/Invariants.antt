use Rattle.std.proofs.Common.{◌≡◌, ◌++◌, map, take}
use Rattle.yd_held.specs.declared.noting.Lack.{Lack}
use Rattle.yd_held.proofs.noting.try_between.Given as goal

abbrev pub invariant-loop-lack : goal.invariant-loop-lack
invariant-loop-lack l = l.tries.items ≡ l.fn.tries.items ++ map (λ (l : Lack). l.client) (take l.lack-index l.lack-items)
