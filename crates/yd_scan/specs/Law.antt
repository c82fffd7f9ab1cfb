-- What the place that the scan of a run's first unit finds is worth (own).
use Rattle.std.specs.Prelude.{◌≡◌, ◌<◌, ◌++◌, ℕ, List, [], ◌∷◌, Option, None, length}
use Rattle.yd_ids.specs.declared.id.Id.{Id}
use Rattle.yd_words.specs.Member.{IsIn}
use Rattle.yd_origins.specs.Growing.{IsRun}
use Rattle.yd_origins.specs.Scan.{after_scans}
use Rattle.yd_chains.specs.Chain.{put_behind}
use Rattle.yd_scan.specs.declared.stretch.Stretch.{Stretch}
use Rattle.yd_scan.specs.Stretches.{units_of, later_units, units_at, HasOrigins, HasLefts}
use Rattle.yd_scan.specs.Scanning.{IsReady, IsScanPlace}

-- no unit of the new run has a place yet, each later one has the one before as its left, and the left origins of the list's
-- runs are in the list
pub record IsUnheld (left : Id → Option Id) (places : Id → Option ℕ) (stretches : List Stretch) (list : List ℕ) (new : Stretch) : Type 0 where
  pub is_run : IsRun left new.id (later_units new)
  pub filled : 0 < new.len
  pub unheld : (u : Id) → IsIn u (units_of new) → places u ≡ None
  pub held_lefts : HasLefts stretches list

-- with the new run at that place, the units of the list are those after the scans of its units in turn
abbrev pub ListsGrow : Type 0
ListsGrow = (left right : Id → Option Id) (places : Id → Option ℕ) (stretches : List Stretch) (list : List ℕ) (after place : Option ℕ) (new : Stretch) →
    IsReady places stretches list after new → HasOrigins left right stretches list new → IsUnheld left places stretches list new → IsScanPlace stretches list new place left right →
    units_at (stretches ++ new ∷ []) (put_behind place (length stretches) list) ≡ after_scans left right (units_at stretches list) (units_of new)
