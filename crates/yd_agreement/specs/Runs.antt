-- The runs that updates spell (own).
use Rattle.std.specs.Borrow.{Bor}
use Rattle.std.specs.Prelude.{◌≡◌, ◌↔◌, ◌+◌, ◌≤◌, ◌<◌, ◌⊎◌, Bool, true, false, List, [], ◌∷◌, ◌++◌, map, filter}
use Rattle.yd_words.specs.Each.{Each}
use Rattle.yd_words.specs.Member.{IsIn}
use Rattle.yd_ids.specs.declared.id.Id.{Id}
use Rattle.yd_ops.specs.View.{run_value}
use Rattle.yd_ops.specs.declared.runs.Run.{Run}
use Rattle.yd_ops.specs.Value.{BlockValue, ContentValue, RunValue, StructValue, UpdateValue, deleted, gone, item, len_of, skip}

-- the runs of structs; what is gone is no run
abbrev pub runs_of_structs : List StructValue → List RunValue
runs_of_structs [] = []
runs_of_structs (item run ∷ structs) = run ∷ runs_of_structs structs
runs_of_structs (skip count ∷ structs) = runs_of_structs structs
runs_of_structs (gone count ∷ structs) = runs_of_structs structs

-- the runs of blocks
abbrev pub runs_of_blocks : List BlockValue → List RunValue
runs_of_blocks [] = []
runs_of_blocks (block ∷ blocks) = runs_of_structs block.structs ++ runs_of_blocks blocks

-- the runs of updates
abbrev pub runs_of_updates : List UpdateValue → List RunValue
runs_of_updates [] = []
runs_of_updates (update ∷ updates) = runs_of_blocks update.blocks ++ runs_of_updates updates

-- the runs that are lent
abbrev pub lent_runs : List (Bor Run) → List RunValue
lent_runs runs = map (λ run. run_value run.now) runs

-- two lists have the same runs, in any order and however often
abbrev pub HaveSameRuns : List RunValue → List RunValue → Type 0
HaveSameRuns rs ss = (r : RunValue) → IsIn r rs ↔ IsIn r ss

-- whether a content is told in full
abbrev pub is_full : ContentValue → Bool
is_full (deleted count) = false
is_full content = true

-- those of runs that are told in full
abbrev pub full_runs : List RunValue → List RunValue
full_runs runs = filter (λ (run : RunValue). is_full run.content) runs

-- an id comes in the order of ids before another one, or is it
abbrev pub ComesBy : Id → Id → Type 0
ComesBy x y = (x.client.0 < y.client.0) ⊎ ((x.client ≡ y.client) × (x.clock ≤ y.clock))

-- a run ends before another one of its client, or with it, or its client comes before
abbrev pub EndsBy : RunValue → RunValue → Type 0
EndsBy r s = (r.id.client.0 < s.id.client.0) ⊎ ((r.id.client ≡ s.id.client) × (r.id.clock + len_of r.content ≤ s.id.clock + len_of s.content))

-- runs come in the order of their first ids
abbrev pub AreAscending : List RunValue → Type 0
AreAscending [] = Unit {0}
AreAscending (r ∷ rs) = Each (λ (s : RunValue). ComesBy r.id s.id) rs × AreAscending rs

-- the run is the one of some that ends last
pub record IsCover (runs : List RunValue) (cover : RunValue) : Type 0 where
  pub there : IsIn cover runs
  pub last : Each (λ (r : RunValue). EndsBy r cover) runs
