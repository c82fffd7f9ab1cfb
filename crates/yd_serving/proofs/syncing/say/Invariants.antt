use Rattle.std.proofs.Common.{◌≡◌, [], take}
use Rattle.yd_machines.specs.Sent.{values_of}
use Rattle.yd_serving.specs.Board.{Trades, board_of}
use Rattle.yd_serving.proofs.SayLemmas.{sent_all}
use Rattle.yd_serving.proofs.syncing.say.Given as goal

abbrev pub invariant-loop-message : goal.invariant-loop-message
invariant-loop-message g l = record {
  said : Trades (board_of (g.B.Switchboard.told l.fn.board) (g.B.Switchboard.faults l.fn.board) (g.B.Switchboard.send_faults l.fn.board))
      (board_of (g.B.Switchboard.told l.board) (g.B.Switchboard.faults l.board) (g.B.Switchboard.send_faults l.board)) [] (sent_all (values_of (take l.message-index l.messages)));
  calm : g.B.Switchboard.is_calm l.fn.board → g.B.Switchboard.is_calm l.board;
  faults : g.B.Switchboard.faults l.board ≡ g.B.Switchboard.faults l.fn.board;
}
