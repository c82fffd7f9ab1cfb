-- What the index is worth, where its entries are those of the runs at their places (own).
use Rattle.std.specs.Prelude.{◌≡◌, ◌↔◌, ◌<◌, ◌≤◌, ◌-◌, ◌++◌, ℕ, List, [], ◌∷◌, Some, None, length}
use Rattle.yd_ids.specs.declared.id.Id.{Id}
use Rattle.yd_words.specs.Member.{IsIn, AreDistinct}
use Rattle.yd_chains.specs.Chain.{put_behind}
use Rattle.yd_scan.specs.declared.stretch.Stretch.{Stretch}
use Rattle.yd_scan.specs.Stretches.{stretch_at, units_at, IsIndex}
use Rattle.yd_index.specs.declared.line.Entry.{Entry}
use Rattle.yd_index.specs.Line.{Lined}
use Rattle.yd_index.specs.Lines.{next_of, entry_at, Adds, Cuts}
use Rattle.yd_index.specs.Holding.{Holds, places_of, cut_stretches}

-- each unit of a run has the run's place, and no other id has one
abbrev pub IndexFinds : Type 0
IndexFinds = (lines : List Lined) (stretches : List Stretch) → Holds lines stretches → IsIndex (places_of lines) stretches

-- no entry is found exactly from the client's next clock on
abbrev pub IndexIsExact : Type 0
IndexIsExact = (lines : List Lined) (stretches : List Stretch) (id : Id) → Holds lines stretches → (entry_at lines id ≡ None) ↔ (next_of lines id.client.0 ≤ id.clock)

-- with a run more and its entry, the entries are still the runs at their places
abbrev pub AddedIsHeld : Type 0
AddedIsHeld = (old new : List Lined) (stretches : List Stretch) (stretch : Stretch) → Holds old stretches → 0 < stretch.len → stretch.id.clock ≡ next_of old stretch.id.client.0 →
    Adds old new stretch.id.client.0 (length stretches) stretch.len →
    Holds new (stretches ++ stretch ∷ [])

-- with a run cut and its entry too, likewise
abbrev pub CutIsHeld : Type 0
CutIsHeld = (old new : List Lined) (stretches : List Stretch) (id : Id) (e : Entry) → Holds old stretches → entry_at old id ≡ Some e → e.clock < id.clock →
    Cuts old new id (length stretches) →
    Holds new (cut_stretches stretches e.place (id.clock - e.clock))

-- a list with the second part behind the first has the units that it had
abbrev pub CutKeepsUnits : Type 0
CutKeepsUnits = (stretches : List Stretch) (list : List ℕ) (i n : ℕ) → i < length stretches → n ≤ (stretch_at stretches i).len → ((j : ℕ) → IsIn j list → j < length stretches) → AreDistinct list → IsIn i list →
    units_at (cut_stretches stretches i n) (put_behind (Some i) (length stretches) list) ≡ units_at stretches list

-- a list without the run that is cut has them too
abbrev pub CutKeepsOthers : Type 0
CutKeepsOthers = (stretches : List Stretch) (list : List ℕ) (i n : ℕ) → i < length stretches → ((j : ℕ) → IsIn j list → j < length stretches) → (IsIn i list → ⊥) →
    units_at (cut_stretches stretches i n) list ≡ units_at stretches list
