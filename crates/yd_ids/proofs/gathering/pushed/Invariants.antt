use Rattle.std.proofs.Common.{◌≡◌, take}
use Rattle.yd_ids.proofs.gathering.pushed.Given as goal

abbrev pub invariant-loop-span : goal.invariant-loop-span
invariant-loop-span l = l.list.items ≡ take l.span-index l.spans
