-- A run that goes on where another ends, and both as one (Yjs 13, Item.mergeWith; as a cut that is undone it is own).
use Rattle.std.specs.Prelude.{◌≡◌, ◌<◌, ◌+◌, ◌-◌, ℕ, Some, length}
use Rattle.yd_ids.specs.declared.id.Id.{Id}
use Rattle.yd_words.specs.Member.{IsIn}
use Rattle.yd_chains.specs.Chain.{last_of, before}
use Rattle.yd_scan.specs.declared.stretch.Stretch.{Stretch}
use Rattle.yd_scan.specs.Stretches.{stretch_at}
use Rattle.yd_arena.specs.Lists.{Linked, list_at}
use Rattle.yd_arena.specs.Arena.{Placed, runs_of, HasUnit, CutsRun}

-- the next run goes on where the run ends: it begins at the next clock, behind the run's last unit, and has the run's right origin
pub record Continues (run next : Stretch) : Type 0 where
  pub begins : next.id ≡ record { client = run.id.client; clock = run.id.clock + run.len }
  pub behind : next.left ≡ Some (record { client = run.id.client; clock = run.id.clock + run.len - 1 })
  pub right : next.right ≡ run.right

-- both as one
abbrev pub joined : Stretch → Stretch → Stretch
joined run next = record { id = run.id; len = run.len + next.len; left = run.left; right = run.right }

-- the last of all runs stands directly behind the one at a place in its list, and goes on where that ends
pub record IsJoint (it : Linked) (place : ℕ) : Type 0 where
  pub last : ℕ
  pub is_last : length it.stretches ≡ last + 1
  pub list : ℕ
  pub low : list < length it.lists
  pub member : IsIn last (list_at it list)
  pub behind : last_of (before last (list_at it list)) ≡ Some place
  pub continues : Continues (stretch_at it.stretches place) (stretch_at it.stretches last)

-- the last of all runs is one with the one at a place; where that is cut behind so many units, all is as before
pub record JoinsLast (old new : Placed) (place : ℕ) : Type 0 where
  pub id : Id
  pub before : ℕ
  pub has : HasUnit (runs_of new) place before id
  pub later : 0 < before
  pub cuts : CutsRun new old place before
