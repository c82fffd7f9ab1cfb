use Rattle.std.proofs.Common.{◌≡◌}
use Rattle.yd_sockets.proofs.socket_board.SocketBoard.wait.Given as goal

-- looks without an event change nothing
abbrev pub invariant-loop : goal.invariant-loop
invariant-loop g l = l.self ≡ l.fn.self
