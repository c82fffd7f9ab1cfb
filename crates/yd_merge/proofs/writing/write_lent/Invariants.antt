use Rattle.std.proofs.Common.{◌≡◌, map, drop}
use Rattle.yd_grouping.specs.Building.{all_pushed, nothing_built}
use Rattle.yd_building.specs.Builder.{built_of}
use Rattle.yd_merge.specs.Lending.{lent_group}
use Rattle.yd_merge.proofs.writing.write_lent.Given as goal

-- with what is left, all is pushed
abbrev pub invariant-loop-lent : goal.invariant-loop-lent
invariant-loop-lent l = all_pushed (built_of l.builder) (map lent_group (drop l.lent-index l.lents)) ≡ all_pushed nothing_built (map lent_group l.lents)
