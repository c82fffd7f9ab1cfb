use Rattle.std.proofs.Common.{◌<◌}
use Rattle.yd_arena.specs.Arena.{count_of}
use Rattle.yd_store_speed.proofs.crowd.put_all.Given as goal

abbrev pub invariant-loop-client : goal.invariant-loop-client
invariant-loop-client l = 0 < count_of l.store.placed
