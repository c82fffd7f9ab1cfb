-- Runs at places and the lists that link them, as contracts see them (own).
use Rattle.std.specs.Prelude.{◌≡◌, ◌≢◌, ◌<◌, ◌≤◌, ◌-◌, ℕ, List, [], Some, min, length, get_or, set}
use Rattle.yd_words.specs.Member.{IsIn, AreDistinct}
use Rattle.yd_chains.specs.Chain.{put_behind, without}
use Rattle.yd_chains.specs.Link.{Chained}
use Rattle.yd_scan.specs.declared.stretch.Stretch.{Stretch}
use Rattle.yd_scan.specs.Stretches.{stretch_at}
use Rattle.yd_index.specs.Holding.{front_of}

-- the runs by place, the places of each list in order, and how many more runs cannot fail
pub record Linked : Type 0 where
  pub stretches : List Stretch
  pub lists : List (List ℕ)
  pub room : ℕ

-- the places of the list with a number
abbrev pub list_at : Linked → ℕ → List ℕ
list_at it k = get_or it.lists k []

-- the smallest of what is left: places and marks that were taken ahead, memory for runs, and numbers
abbrev pub room_left : ℕ → ℕ → ℕ → ℕ → ℕ → ℕ
room_left runs places marks memory most = min (min (places - runs) (marks - runs)) (min (memory - runs) (most - runs))

-- the lists have runs at their places, none of which is empty; each run has a place and a mark, and no mark is above the counter
pub record AreKept (chains : Chained) (stretches : List Stretch) (marks : List ℕ) (counter most : ℕ) : Type 0 where
  pub placed : length stretches ≤ chains.count
  pub marked : length stretches ≤ length marks
  pub bound : length stretches ≤ most
  pub low : (i : ℕ) → get_or marks i 0 ≤ counter
  pub within : (k i : ℕ) → k < length chains.chains → IsIn i (get_or chains.chains k []) → i < length stretches
  pub filled : (k i : ℕ) → k < length chains.chains → IsIn i (get_or chains.chains k []) → 0 < (stretch_at stretches i).len

-- no list has a place twice, each place of a list is that of a run that is not empty, and no two lists share one
pub record AreLists (it : Linked) : Type 0 where
  pub distinct : (k : ℕ) → k < length it.lists → AreDistinct (list_at it k)
  pub within : (k i : ℕ) → k < length it.lists → IsIn i (list_at it k) → i < length it.stretches
  pub filled : (k i : ℕ) → k < length it.lists → IsIn i (list_at it k) → 0 < (stretch_at it.stretches i).len
  pub apart : (j k i : ℕ) → j < length it.lists → k < length it.lists → j ≢ k → IsIn i (list_at it j) → IsIn i (list_at it k) → ⊥

-- the place is in no list
abbrev pub IsLoose : Linked → ℕ → Type 0
IsLoose it place = (k : ℕ) → k < length it.lists → IsIn place (list_at it k) → ⊥

-- the list that has a place gets another behind it, and all others stay
pub record PutsBehind (old new : List (List ℕ)) (place more : ℕ) : Type 0 where
  pub count : length new ≡ length old
  pub own : (k : ℕ) → k < length old → IsIn place (get_or old k []) → get_or new k [] ≡ put_behind (Some place) more (get_or old k [])
  pub others : (k : ℕ) → k < length old → (IsIn place (get_or old k []) → ⊥) → get_or new k [] ≡ get_or old k []

-- the list that has a place loses it, and all others stay
pub record TakesOut (old new : List (List ℕ)) (place : ℕ) : Type 0 where
  pub count : length new ≡ length old
  pub own : (k : ℕ) → k < length old → IsIn place (get_or old k []) → get_or new k [] ≡ without place (get_or old k [])
  pub others : (k : ℕ) → k < length old → (IsIn place (get_or old k []) → ⊥) → get_or new k [] ≡ get_or old k []

-- the runs, with the one at a place without units
abbrev pub emptied : List Stretch → ℕ → List Stretch
emptied stretches place = set stretches place (front_of (stretch_at stretches place) 0)
