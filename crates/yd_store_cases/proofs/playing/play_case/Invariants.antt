use Rattle.std.proofs.Common.{◌<◌}
use Rattle.yd_arena.specs.Arena.{count_of}
use Rattle.yd_store_cases.proofs.playing.play_case.Given as goal

abbrev pub invariant-loop-step : goal.invariant-loop-step
invariant-loop-step l = 1 < count_of l.store.placed

abbrev pub invariant-loop : goal.invariant-loop
invariant-loop l = 1 < count_of l.store.placed
