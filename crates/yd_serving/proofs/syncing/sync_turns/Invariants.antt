use Rattle.std.proofs.Common.{◌≡◌}
use Rattle.yd_machines.specs.PeerStep.{peer_state}
use Rattle.yd_serving.specs.Board.{HasEvents, board_of}
use Rattle.yd_serving.proofs.SyncLemmas.{SyncsSoFar}
use Rattle.yd_serving.proofs.syncing.sync_turns.Given as goal

abbrev pub invariant-loop : goal.invariant-loop
invariant-loop g l = record {
  synced : SyncsSoFar (peer_state l.fn.peer) (peer_state l.peer) l.heard l.counter
      (board_of (g.B.Switchboard.told l.fn.board) (g.B.Switchboard.faults l.fn.board) (g.B.Switchboard.send_faults l.fn.board))
      (board_of (g.B.Switchboard.told l.board) (g.B.Switchboard.faults l.board) (g.B.Switchboard.send_faults l.board));
  calm : g.B.Switchboard.is_calm l.fn.board → g.B.Switchboard.is_calm l.board;
  linked : g.B.Switchboard.is_calm l.fn.board → HasEvents l.turns (g.B.Switchboard.told l.fn.board) → g.B.Switchboard.faults l.board ≡ g.B.Switchboard.faults l.fn.board;
}
