use Rattle.std.proofs.Common.{◌≡◌}
use Rattle.yd_arena.specs.Arena.{count_of}
use Rattle.yd_store_speed.proofs.building.type_runs.Given as goal

abbrev pub invariant-loop : goal.invariant-loop
invariant-loop l = count_of l.store.placed ≡ count_of l.fn.store.placed
