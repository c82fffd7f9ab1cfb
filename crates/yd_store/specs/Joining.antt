-- The last run of a store is one with the run before it in its list (Yjs 13, Item.mergeWith; as a cut that is undone it is own).
use Rattle.std.specs.Prelude.{◌≡◌, ◌<◌, ◌++◌, ◌∷◌, [], ℕ, true, List, Option, Some, None, length, set}
use Rattle.yd_ids.specs.declared.id.Id.{Id}
use Rattle.yd_ops.specs.Value.{RunValue}
use Rattle.yd_ops.specs.Joining.{run_joins, joined_run}
use Rattle.yd_store.specs.Contents.{run_at}
use Rattle.yd_store.specs.Store.{Stored, SplitsAt}

-- a run goes on where another ends, and both are one
pub record JoinsRun (run next both : RunValue) : Type 0 where
  pub joins : run_joins run next ≡ true
  pub unlisted : next.list ≡ None
  pub joined : both ≡ joined_run run next

-- so it is with what two places tell
pub record JoinsSlot (one next both : Option RunValue) : Type 0 where
  pub run : RunValue
  pub more : RunValue
  pub is_run : one ≡ Some run
  pub is_next : next ≡ Some more
  pub joins : run_joins run more ≡ true
  pub unlisted : more.list ≡ None
  pub joined : both ≡ Some (joined_run run more)

-- what the last place tells goes on with what another tells, which tells both as one
pub record JoinsTold (old new : List (Option RunValue)) (place : ℕ) : Type 0 where
  pub front : List (Option RunValue)
  pub run : RunValue
  pub next : RunValue
  pub parts : old ≡ front ++ Some next ∷ []
  pub within : place < length front
  pub here : run_at front place ≡ Some run
  pub joins : run_joins run next ≡ true
  pub unlisted : next.list ≡ None
  pub joined : new ≡ set front place (Some (joined_run run next))

-- where a run is split again before the first unit of what was the last run, all is as before
pub record JoinsLast (old new : Stored) : Type 0 where
  pub id : Id
  pub splits : SplitsAt new old id
