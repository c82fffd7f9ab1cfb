use Rattle.std.proofs.Common.{◌≡◌, length}
use Rattle.yd_machines.specs.HubStep.{hub_state}
use Rattle.yd_serving.specs.Board.{board_of}
use Rattle.yd_serving.proofs.SettleLemmas.{SoFar}
use Rattle.yd_serving.proofs.settling.settle.Given as goal

abbrev pub invariant-loop-alloc : goal.invariant-loop-alloc
invariant-loop-alloc g l = record {
  settled : SoFar l.now (hub_state l.fn.hub) (hub_state l.hub) l.fn.failed.items l.failed.items
      (board_of (g.B.Switchboard.told l.fn.board) (g.B.Switchboard.faults l.fn.board) (g.B.Switchboard.send_faults l.fn.board))
      (board_of (g.B.Switchboard.told l.board) (g.B.Switchboard.faults l.board) (g.B.Switchboard.send_faults l.board));
  calm : g.B.Switchboard.is_calm l.fn.board → g.B.Switchboard.is_calm l.board;
  faults : g.B.Switchboard.faults l.board ≡ g.B.Switchboard.faults l.fn.board;
}

abbrev pub decreases-loop-alloc : goal.decreases-loop-alloc
decreases-loop-alloc g l = length (hub_state l.hub).sessions
