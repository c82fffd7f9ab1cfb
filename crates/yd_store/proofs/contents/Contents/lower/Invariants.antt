use Rattle.std.proofs.Common.{◌≡◌, ◌+◌, ◌≤◌, length}
use Rattle.yd_arena.specs.Arena.{runs_of}
use Rattle.yd_arena.specs.Marks.{IsBorder}
use Rattle.yd_store.specs.Contents.{told_of}
use Rattle.yd_store.specs.Lowering.{LowersClocks}
use Rattle.yd_store.proofs.contents.Contents.lower.Given as goal

abbrev pub invariant-loop-left : goal.invariant-loop-left
invariant-loop-left l = record {
  low : l.span.clock ≤ l.clock;
  sum : l.clock + l.left ≡ l.span.clock + l.span.len;
  border : IsBorder (runs_of l.arena) l.span.client.0 l.clock;
  each : length l.self.rows ≡ length (runs_of l.arena);
  lowered : LowersClocks (runs_of l.arena) l.level (told_of l.fn.self) (told_of l.self) l.span.client.0 l.span.clock l.clock;
  room : l.self.room ≡ l.fn.self.room;
}

abbrev pub decreases-loop-left : goal.decreases-loop-left
decreases-loop-left l = l.left
