use Rattle.std.proofs.Common.{◌≢◌, ◌<◌, slice_get, Some, ℕ}
use Rattle.yd_sockets.proofs.sessions.Sessions.find.Given as goal

-- no place so far has the number
abbrev pub invariant-loop-at : goal.invariant-loop-at
invariant-loop-at g l = (k : ℕ) → k < l.at → slice_get l.self-inside.numbers.items k ≢ Some l.number
