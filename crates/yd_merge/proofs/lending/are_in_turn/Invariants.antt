use Rattle.std.proofs.Common.{◌↔◌, ◌-◌, ◌≤◌, map, drop, length}
use Rattle.yd_merge.specs.Lending.{AreInTurn, lent_group}
use Rattle.yd_merge.proofs.lending.are_in_turn.Given as goal

-- all are in turn if those that are left are
abbrev pub invariant-loop-at : goal.invariant-loop-at
invariant-loop-at l = record {
  within : l.at ≤ length l.lents;
  turn : AreInTurn (map lent_group l.lents) ↔ AreInTurn (map lent_group (drop l.at l.lents));
}

abbrev pub decreases-loop-at : goal.decreases-loop-at
decreases-loop-at l = length l.lents - l.at
