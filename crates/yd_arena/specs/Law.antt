-- What a cut and an addition do to the units of lists, and where a unit stands (own).
use Rattle.std.specs.Prelude.{◌≡◌, ◌<◌, ◌≤◌, ◌++◌, ℕ, List, [], ◌∷◌, Option, length}
use Rattle.yd_ids.specs.declared.id.Id.{Id}
use Rattle.yd_words.specs.Member.{IsIn}
use Rattle.yd_chains.specs.Chain.{up_to, behind, put_behind}
use Rattle.yd_scan.specs.declared.stretch.Stretch.{Stretch}
use Rattle.yd_scan.specs.Stretches.{stretch_at, units_of, units_at}
use Rattle.yd_index.specs.Line.{Lined}
use Rattle.yd_index.specs.Lines.{next_of}
use Rattle.yd_index.specs.Holding.{cut_stretches}
use Rattle.yd_arena.specs.Lists.{Linked, list_at, AreLists, PutsBehind}
use Rattle.yd_arena.specs.Arena.{IsArena, HasUnit}

-- where a run is cut, each list has the units that it had, in their order
abbrev pub CutsKeepUnits : Type 0
CutsKeepUnits = (old new : Linked) (place n : ℕ) → AreLists old → place < length old.stretches → n ≤ (stretch_at old.stretches place).len →
    new.stretches ≡ cut_stretches old.stretches place n → PutsBehind old.lists new.lists place (length old.stretches) →
    (k : ℕ) → k < length old.lists → units_at new.stretches (list_at new k) ≡ units_at old.stretches (list_at old k)

-- a run that is added has all its units directly behind the place, and the others stand as before
abbrev pub AddsPutUnits : Type 0
AddsPutUnits = (stretches : List Stretch) (list : List ℕ) (after : Option ℕ) (new : Stretch) → ((i : ℕ) → IsIn i list → i < length stretches) →
    units_at (stretches ++ new ∷ []) (put_behind after (length stretches) list) ≡ units_at stretches (up_to after list) ++ units_of new ++ units_at stretches (behind after list)

-- a unit stands in one run only, at one place of it, and its clock is below the next one of its client
abbrev pub UnitsStandOnce : Type 0
UnitsStandOnce = (lines : List Lined) (runs : List Stretch) (id : Id) (place n other m : ℕ) → IsArena lines runs → HasUnit runs place n id → HasUnit runs other m id →
    (place ≡ other) × (n ≡ m) × (id.clock < next_of lines id.client.0)
