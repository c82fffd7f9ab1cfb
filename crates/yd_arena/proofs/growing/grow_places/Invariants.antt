use Rattle.std.proofs.Common.{◌≡◌, ◌-◌, ◌≤◌}
use Rattle.yd_arena.proofs.growing.grow_places.Given as goal

abbrev pub invariant-loop-chains : goal.invariant-loop-chains
invariant-loop-chains l = record {
  kept : l.fn.chains.count ≤ l.chains.count;
  chains : l.chains.chains ≡ l.fn.chains.chains;
}

abbrev pub decreases-loop-chains : goal.decreases-loop-chains
decreases-loop-chains l = l.most - l.chains.count
