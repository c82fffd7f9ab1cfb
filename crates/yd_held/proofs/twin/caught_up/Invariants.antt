use Rattle.std.proofs.Common.{drop}
use Rattle.yd_ids.specs.Vector.{clock_of, IsVector}
use Rattle.yd_held.specs.Turn.{AreHeldInTurn}
use Rattle.yd_held.proofs.twin.caught_up.Given as goal

-- the entries that are left come in turn behind those of which the clocks are raised
abbrev pub invariant-loop-at : goal.invariant-loop-at
invariant-loop-at l = record {
  turn : AreHeldInTurn l.held.received.runs l.held.received.entries (clock_of l.twin) (drop l.at-index l.order) (clock_of l.held.vector);
  vector : IsVector l.twin;
}
