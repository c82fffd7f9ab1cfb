use Rattle.std.proofs.Common.{List, [], ◌∷◌, None}
use Rattle.yd_ids.specs.declared.id.Id.{Id}
use Rattle.yd_origins.specs.Growing.{IsNotAmong}
use Rattle.yd_scan.specs.Stretches.{later_units, stretch_at}
use Rattle.yd_arena.specs.Arena.{runs_of}
use Rattle.yd_store_cases.proofs.changing.add_first.Goals as goal

-- no id is absent
none_among : (ids : List Id) → IsNotAmong None ids
none_among [] = tt
none_among (id ∷ ids) = ((λ e. cc), none_among ids)

pub add_run-requires-clause-right : goal.add_run-requires-clause-right
add_run-requires-clause-right c = λ i h. none_among (later_units (stretch_at (runs_of c.args.store.now.placed) i))
