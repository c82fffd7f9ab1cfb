use Rattle.std.proofs.Common.{◌≡◌, map, take}
use Rattle.yd_order.specs.Counting.{id_of_rank}
use Rattle.yd_order.proofs.arranging.ids_of.Given as goal

abbrev pub invariant-loop-rank : goal.invariant-loop-rank
invariant-loop-rank l = l.ids.items ≡ map id_of_rank (take l.rank-index l.ranks)
