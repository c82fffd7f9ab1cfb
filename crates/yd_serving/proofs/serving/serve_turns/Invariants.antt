use Rattle.std.proofs.Common.{◌≡◌}
use Rattle.yd_machines.specs.HubStep.{hub_state}
use Rattle.yd_serving.specs.Board.{HasEvents, board_of}
use Rattle.yd_serving.specs.Serving.{ServesAll}
use Rattle.yd_serving.proofs.serving.serve_turns.Given as goal

abbrev pub invariant-loop : goal.invariant-loop
invariant-loop g l = record {
  served : ServesAll l.counter (hub_state l.fn.hub) (hub_state l.hub)
      (board_of (g.B.Switchboard.told l.fn.board) (g.B.Switchboard.faults l.fn.board) (g.B.Switchboard.send_faults l.fn.board))
      (board_of (g.B.Switchboard.told l.board) (g.B.Switchboard.faults l.board) (g.B.Switchboard.send_faults l.board));
  calm : g.B.Switchboard.is_calm l.fn.board → g.B.Switchboard.is_calm l.board;
  linked : g.B.Switchboard.is_calm l.fn.board → HasEvents l.turns (g.B.Switchboard.told l.fn.board) → g.B.Switchboard.faults l.board ≡ g.B.Switchboard.faults l.fn.board;
}
