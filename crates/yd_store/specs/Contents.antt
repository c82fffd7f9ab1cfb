-- What the runs of a store hold, by place (Yjs 13, the contents of items; a gone one has none).
use Rattle.std.specs.Prelude.{◌≡◌, ◌<◌, ◌+◌, ◌++◌, ◌∷◌, [], ℕ, Bool, true, false, List, Option, Some, None, length, map, get_or, set}
use Rattle.yd_ids.specs.Id.{IsClock}
use Rattle.yd_ops.specs.Value.{ContentValue, format, deleted, len_of, RunValue}
use Rattle.yd_ops.specs.Cutting.{run_before, run_behind}
use Rattle.yd_ops.specs.View.{run_value}
use Rattle.yd_ops.specs.declared.runs.Run.{Run}

-- the run of each place, where it is told, and how many more runs cannot fail
pub record Contented : Type 0 where
  pub rows : List (Option Run)
  pub room : ℕ

-- what a place tells
abbrev pub told : Option Run → Option RunValue
told None = None
told (Some run) = Some (run_value run)

-- what the places tell, as plain data
abbrev pub told_of : Contented → List (Option RunValue)
told_of it = map told it.rows

-- the run at a place
abbrev pub run_at : List (Option RunValue) → ℕ → Option RunValue
run_at runs place = get_or runs place None

-- the first units of what a place tells
abbrev pub told_before : ℕ → Option RunValue → Option RunValue
told_before n None = None
told_before n (Some run) = Some (run_before n run)

-- and the others
abbrev pub told_behind : ℕ → Option RunValue → Option RunValue
told_behind n None = None
told_behind n (Some run) = Some (run_behind n run)

-- the runs with the one at a place cut, its second part being a run more
abbrev pub cut_runs : List (Option RunValue) → ℕ → ℕ → List (Option RunValue)
cut_runs runs place n = set runs place (told_before n (run_at runs place)) ++ told_behind n (run_at runs place) ∷ []

-- a run that is told has more units than so many, and ends at a clock
abbrev pub CanBeCut : ℕ → Option RunValue → Type 0
CanBeCut n None = Unit {0}
CanBeCut n (Some run) = (n < len_of run.content) × IsClock (run.id.clock + len_of run.content)

-- the run at a place can be cut behind so many units
pub record CanCut (it : Contented) (place n : ℕ) : Type 0 where
  pub within : place < length it.rows
  pub some : 0 < n
  pub inside : CanBeCut n (run_at (told_of it) place)

-- one is cut so
abbrev pub CutsTold : Contented → Contented → ℕ → ℕ → Type 0
CutsTold old new place n = told_of new ≡ cut_runs (told_of old) place n

-- the runs are as before
abbrev pub KeepsTold : Contented → Contented → Type 0
KeepsTold old new = told_of new ≡ told_of old

-- whether the units of a content count in lengths: all but format marks and deleted ones
abbrev pub counts : ContentValue → Bool
counts (format key value) = false
counts (deleted count) = false
counts content = true

-- whether a content is told as deleted
abbrev pub is_lowered : ContentValue → Bool
is_lowered (deleted count) = true
is_lowered content = false
