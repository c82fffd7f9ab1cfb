-- What the structs of updates have, one after another, and when no two of them have a unit with one id (own).
use Rattle.std.specs.Prelude.{◌≡◌, ◌⊎◌, ℕ, ◌+◌, ◌<◌, ◌≤◌, List, [], ◌∷◌, ◌++◌, Option, Some, None, map}
use Rattle.std.specs.List.Sorted.{IsPermutation}
use denote.Ref.{Bor}
use Rattle.yd_ids.specs.Id.{IsClient, IsClock}
use Rattle.yd_ids.specs.declared.id.Client.{Client}
use Rattle.yd_ids.specs.declared.id.Id.{Id}
use Rattle.yd_ops.specs.Valid.{IsStructAt}
use Rattle.yd_ops.specs.Value.{BlockValue, StructValue, UpdateValue, clocks_of, gone, item, skip}
use Rattle.yd_ops.specs.View.{run_value}
use Rattle.yd_ops.specs.declared.runs.Run.{Run}
use Rattle.yd_grouping.specs.Grouped.{end_of}
use Rattle.yd_grouping.specs.Groups.{Group, of_gone, of_run, size_of, start_of, struct_of}
use Rattle.yd_merge.specs.declared.lending.Lent.{Lent}

-- ---- groups of updates

-- what a struct at a clock of a client has; a skip has nothing
abbrev pub struct_groups : Client → ℕ → StructValue → List Group
struct_groups client clock (item run) = of_run run ∷ []
struct_groups client clock (skip count) = []
struct_groups client clock (gone count) = of_gone (record { client = client; clock = clock }) count ∷ []

-- what structs have, which follow one another from a clock on
abbrev pub structs_groups : Client → ℕ → List StructValue → List Group
structs_groups client clock [] = []
structs_groups client clock (s ∷ structs) = struct_groups client clock s ++ structs_groups client (clock + clocks_of s) structs

-- what blocks have
abbrev pub blocks_groups : List BlockValue → List Group
blocks_groups [] = []
blocks_groups (block ∷ blocks) = structs_groups block.client block.clock block.structs ++ blocks_groups blocks

-- what updates have
abbrev pub updates_groups : List UpdateValue → List Group
updates_groups [] = []
updates_groups (update ∷ updates) = blocks_groups update.blocks ++ updates_groups updates

-- the group is what a struct of a valid update has
pub record IsOfUpdate (group : Group) : Type 0 where
  pub client : IsClient (start_of group).client
  pub struct : IsStructAt (start_of group).client (start_of group).clock (struct_of group)
  pub end : IsClock (end_of group)

-- ---- in turn

-- the first is written wholly before the second: of a greater client, or of the same one and ending before it begins
abbrev pub GoesBefore : Group → Group → Type 0
GoesBefore group next = ((start_of next).client.0 < (start_of group).client.0) ⊎ (((start_of group).client.0 ≡ (start_of next).client.0) × (end_of group ≤ (start_of next).clock))

-- each is written wholly before the next; so no two have a unit with one id
abbrev pub AreInTurn : List Group → Type 0
AreInTurn [] = Unit {0}
AreInTurn (group ∷ []) = Unit {0}
AreInTurn (group ∷ next ∷ groups) = GoesBefore group next × AreInTurn (next ∷ groups)

-- ---- lent

-- a run, or else so many gone units from an id on
abbrev pub group_in : Option (Bor Run) → Id → ℕ → Group
group_in None id len = of_gone id len
group_in (Some run) id len = of_run (run_value run.now)

-- what is lent, as a group
abbrev pub lent_group : Lent → Group
lent_group lent = group_in lent.run lent.id lent.len

-- the id and the length are those of what is lent, which is of a valid update
pub record IsLent (lent : Lent) : Type 0 where
  pub id : start_of (lent_group lent) ≡ lent.id
  pub len : size_of (lent_group lent) ≡ lent.len
  pub valid : IsOfUpdate (lent_group lent)

-- in no order are they in turn
abbrev pub AreNeverInTurn : List Lent → Type 0
AreNeverInTurn lents = (others : List Lent) → IsPermutation lents others → AreInTurn (map lent_group others) → ⊥
