use Rattle.std.proofs.Common.{◌≡◌, drop}
use Rattle.yd_ids.specs.Vector.{clock_of}
use Rattle.yd_grouping.specs.Building.{all_pushed, nothing_built}
use Rattle.yd_building.specs.Builder.{built_of}
use Rattle.yd_merge.specs.Cutting.{cut_lents}
use Rattle.yd_merge.proofs.lent_cutting.cut_lent.Given as goal

-- with what is left and in the cut, all that is in it is pushed
abbrev pub invariant-loop-lent : goal.invariant-loop-lent
invariant-loop-lent l = all_pushed (built_of l.builder) (cut_lents (clock_of l.vector) (drop l.lent-index l.lents)) ≡ all_pushed nothing_built (cut_lents (clock_of l.vector) l.lents)
