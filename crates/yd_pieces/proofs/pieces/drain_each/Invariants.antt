use Rattle.std.proofs.Common.{◌≡◌, ◌-◌, ◌≤◌}
use Rattle.std.specs.List.{remove_range}
use Rattle.yd_pieces.proofs.pieces.drain_each.Given as goal

abbrev pub invariant-loop-left : goal.invariant-loop-left
invariant-loop-left g l = record {
  order : l.left ≤ l.to - l.from;
  done : l.list.items ≡ remove_range l.fn.list.items l.from (l.to - l.left);
  room : l.fn.list.room ≤ l.list.room;
}

abbrev pub decreases-loop-left : goal.decreases-loop-left
decreases-loop-left g l = l.left
