-- How a run goes into a list by its origins: runs are cut at these first, and then it is scanned for (Yjs 13, `integrate`).
use Rattle.std.specs.Prelude.{◌≡◌, ◌+◌, ◌<◌, ◌≤◌, ℕ, Option, Some, None, IfSome}
use Rattle.yd_ids.specs.declared.id.Id.{Id}
use Rattle.yd_ids.specs.Id.{IsClock}
use Rattle.yd_ops.specs.Value.{RunValue, len_of}
use Rattle.yd_arena.specs.Lists.{AreLists}
use Rattle.yd_arena.specs.Arena.{Placed, runs_of, next_clock, HasUnit}
use Rattle.yd_arena.specs.Marks.{IsBorder}
use Rattle.yd_store.specs.Store.{Stored, StandsIn, AddsRun}
use Rattle.yd_store.specs.Units.{KeepsUnits}

-- no run goes over the front of a unit, whether it is held or not
abbrev pub IsBorderAt : Stored → Id → Type 0
IsBorderAt it id = IsBorder (runs_of it.placed) id.client.0 id.clock

-- no run goes over the end of a unit
abbrev pub IsBorderBehind : Stored → Id → Type 0
IsBorderBehind it id = IsBorder (runs_of it.placed) id.client.0 (id.clock + 1)

-- the run at the place has the unit with an id, or there is no such unit
abbrev pub IsPlaceOf : Placed → Option Id → Option ℕ → Type 0
IsPlaceOf placed None place = place ≡ None
IsPlaceOf placed (Some id) None = next_clock placed id.client.0 ≤ id.clock
IsPlaceOf placed (Some id) (Some p) = (before : ℕ) × HasUnit (runs_of placed) p before id

-- runs are cut, and then the run goes into the list where the scan puts it
pub record Integrates (old new : Stored) (list : ℕ) (run : RunValue) : Type 0 where
  pub parted : Stored
  pub kept : KeepsUnits old parted
  pub lists : AreLists parted.placed.linked
  pub adds : AddsRun parted new list run

-- a run can go into a list: it is not empty, its clocks are the next ones of its client, and its left origin stands in the list, if it has one
pub record IsReady (it : Stored) (list : ℕ) (run : RunValue) : Type 0 where
  pub left : IfSome run.left (λ id. StandsIn it.placed list id)
  pub next : run.id.clock ≡ next_clock it.placed run.id.client.0
  pub filled : 0 < len_of run.content
  pub fits : IsClock (run.id.clock + len_of run.content)
