use Rattle.std.proofs.Common.{◌≡◌, ◌+◌, ◌≤◌}
use Rattle.yd_arena.specs.Arena.{runs_of}
use Rattle.yd_arena.specs.Marks.{AreCounted, IsBorder, MarksClocks}
use Rattle.yd_arena.proofs.marks.Marks.mark_deleted.Given as goal

abbrev pub invariant-loop-left : goal.invariant-loop-left
invariant-loop-left l = record {
  low : l.span.clock ≤ l.clock;
  sum : l.clock + l.left ≡ l.span.clock + l.span.len;
  border : IsBorder (runs_of l.arena) l.span.client.0 l.clock;
  counted : AreCounted l.arena.linked l.self.rows l.self.live;
  marked : MarksClocks (runs_of l.arena) l.fn.self.rows l.self.rows l.span.client.0 l.span.clock l.clock;
  room : l.self.room ≡ l.fn.self.room;
}

abbrev pub decreases-loop-left : goal.decreases-loop-left
decreases-loop-left l = l.left
