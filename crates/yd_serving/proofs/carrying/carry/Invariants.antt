use Rattle.std.proofs.Common.{◌≡◌, take}
use Rattle.yd_hub.specs.Orders.{orders_of}
use Rattle.yd_serving.specs.Board.{board_of}
use Rattle.yd_serving.specs.Carried.{Carries}
use Rattle.yd_serving.proofs.carrying.carry.Given as goal

abbrev pub invariant-loop-action : goal.invariant-loop-action
invariant-loop-action g l = record {
  carried : Carries (orders_of (take l.action-index l.actions)) l.fn.failed.items l.failed.items
      (board_of (g.B.Switchboard.told l.fn.board) (g.B.Switchboard.faults l.fn.board) (g.B.Switchboard.send_faults l.fn.board))
      (board_of (g.B.Switchboard.told l.board) (g.B.Switchboard.faults l.board) (g.B.Switchboard.send_faults l.board));
  calm : g.B.Switchboard.is_calm l.fn.board → g.B.Switchboard.is_calm l.board;
  faults : g.B.Switchboard.faults l.board ≡ g.B.Switchboard.faults l.fn.board;
}
