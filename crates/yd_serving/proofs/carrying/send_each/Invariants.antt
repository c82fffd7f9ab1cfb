use Rattle.std.proofs.Common.{◌≡◌, take}
use Rattle.yd_hub.specs.Actions.{to_each}
use Rattle.yd_sync.specs.Message.{MessageValue}
use Rattle.yd_sync.specs.MessageWriting.{bytes_of_message}
use Rattle.yd_serving.specs.Board.{board_of}
use Rattle.yd_serving.specs.Carried.{Carries}
use Rattle.yd_serving.proofs.carrying.send_each.Given as goal

abbrev pub invariant-loop-session : goal.invariant-loop-session
invariant-loop-session g l = record {
  sent : (message : MessageValue) → l.bytes ≡ bytes_of_message message → Carries (to_each message (take l.session-index l.to)) l.fn.failed.items l.failed.items
      (board_of (g.B.Switchboard.told l.fn.board) (g.B.Switchboard.faults l.fn.board) (g.B.Switchboard.send_faults l.fn.board))
      (board_of (g.B.Switchboard.told l.board) (g.B.Switchboard.faults l.board) (g.B.Switchboard.send_faults l.board));
  calm : g.B.Switchboard.is_calm l.fn.board → g.B.Switchboard.is_calm l.board;
  faults : g.B.Switchboard.faults l.board ≡ g.B.Switchboard.faults l.fn.board;
}
