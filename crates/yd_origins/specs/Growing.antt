-- Growing by scans: a list takes rows one by one, each after all that its maker had (own).
use Rattle.std.specs.Prelude.{◌≡◌, ◌≢◌, ◌<◌, List, [], ◌∷◌, ◌++◌, Option, Some, IfSome}
use Rattle.yd_words.specs.Member.{IsIn}
use Rattle.yd_ids.specs.declared.id.Id.{Id}
use Rattle.yd_ids.specs.Ids.{HasSmallerClock}
use Rattle.yd_origins.specs.Table.{OriginTable, ids_of, left_of, right_of}
use Rattle.yd_origins.specs.Scan.{Verdict, stops, moves, stays, walk, after_scans}

-- a list of rows that has the left and the right of each of them and of a new row, and of the new row's client smaller
-- clocks alone
pub record IsReadyFor (table : OriginTable) (list : List Id) (new : Id) : Type 0 where
  pub is_row : IsIn new (ids_of table)
  pub is_new : IsIn new list → ⊥
  pub within : (x : Id) → IsIn x list → IsIn x (ids_of table)
  pub has_left : (x : Id) → IsIn x list → IfSome (left_of table x) (λ y. IsIn y list)
  pub has_right : (x : Id) → IsIn x list → IfSome (right_of table x) (λ y. IsIn y list)
  pub new_left : IfSome (left_of table new) (λ y. IsIn y list)
  pub new_right : IfSome (right_of table new) (λ y. IsIn y list)
  pub smaller_clocks : (x : Id) → IsIn x list → x.client ≡ new.client → x.clock < new.clock

-- new rows of the table in an arrangement in which each comes after its left, its right and the smaller clocks of its
-- client; the list has what came before them
abbrev pub IsArrangement : OriginTable → List Id → List Id → Type 0
IsArrangement table list [] = Unit {0}
IsArrangement table list (new ∷ others) =
    (IsIn new list → ⊥) × IsIn new (ids_of table)
    × IfSome (left_of table new) (λ y. IsIn y list) × IfSome (right_of table new) (λ y. IsIn y list)
    × ((y : Id) → IsIn y (ids_of table) → HasSmallerClock y new → IsIn y list)
    × IsArrangement table (new ∷ list) others

-- one list becomes another by the scans of what it lacks, in an arrangement
pub record GrowsByScan (table : OriginTable) (old new : List Id) : Type 0 where
  pub news : List Id
  pub arranged : IsArrangement table old news
  pub grown : after_scans (left_of table) (right_of table) old news ≡ new

-- a list of rows of the table that has the left, the right and the smaller clocks of each
pub record IsClosed (table : OriginTable) (list : List Id) : Type 0 where
  pub within : (x : Id) → IsIn x list → IsIn x (ids_of table)
  pub has_left : (x : Id) → IsIn x list → IfSome (left_of table x) (λ y. IsIn y list)
  pub has_right : (x : Id) → IsIn x list → IfSome (right_of table x) (λ y. IsIn y list)
  pub has_clocks : (x y : Id) → IsIn x list → IsIn y (ids_of table) → HasSmallerClock y x → IsIn y list

-- the units of a run behind its first: the left of each is the unit before it
abbrev pub IsRun : (Id → Option Id) → Id → List Id → Type 0
IsRun left first [] = Unit {0}
IsRun left first (unit ∷ units) = (left unit ≡ Some first) × IsRun left unit units

-- the neighbour is none of the ids
abbrev pub IsNotAmong : Option Id → List Id → Type 0
IsNotAmong neighbour [] = Unit {0}
IsNotAmong neighbour (x ∷ xs) = (neighbour ≢ Some x) × IsNotAmong neighbour xs

-- how the walk goes on behind a run, where the verdict on its first unit holds for all of it
abbrev pub run_walk : (Id → Option Id) → (Id → Option Id) → Id → List Id → List Id → List Id → List Id → Verdict → List Id × List Id
run_walk left right new passed conflicting units rest stops = (passed, conflicting ++ units ++ rest)
run_walk left right new passed conflicting units rest moves = walk left right new (passed ++ conflicting ++ units) [] rest
run_walk left right new passed conflicting units rest stays = walk left right new passed (conflicting ++ units) rest
