-- What a replica keeps of the operations that it received: runs, and of each the units that were taken (own).
use Rattle.std.specs.Prelude.{◌≡◌, ℕ, ◌+◌, ◌<◌, ◌≤◌, ◌⊎◌, Bool, true, false, zero, suc, List, [], ◌∷◌, ◌++◌, Option, Some, None, take, drop, filter, length, slice_get, nat_eq, nat_le, nat_lt, ◌&&◌, IfSome}
use Rattle.yd_words.specs.Each.{Each}
use Rattle.yd_ids.specs.declared.id.Id.{Id}
use Rattle.yd_ids.specs.Id.{IsId, IsClock}
use Rattle.yd_units.specs.Half.{IsCut}
use Rattle.yd_ops.specs.declared.lists.List.{List as DocList}
use Rattle.yd_ops.specs.declared.runs.Run.{Run}
use Rattle.yd_ops.specs.Operation.{UnitContent, Operation, units_of_content, operations_from, gone_from}
use Rattle.yd_ops.specs.Value.{ContentValue, json, binary, string, embed, nested, any, deleted, format}
use Rattle.yd_ops.specs.Valid.{CarriesList, IsValidContent}
use Rattle.yd_ops.specs.View.{content_value}
use Rattle.yd_ops.specs.ReceivedLaw.{ArePaired}
use Rattle.yd_entries.specs.declared.entry.Entry.{Entry}
use Rattle.yd_entries.specs.declared.place.Place.{Place}
use Rattle.yd_entries.specs.declared.place.Place.TheVariants.{Waits, Lost, In}

-- the units of a run, where there is one
abbrev pub units_of : Option Run → List UnitContent
units_of None = []
units_of (Some run) = units_of_content (content_value run.content)

-- the list that a run carries, for its first unit alone
abbrev pub list_at : Option Run → ℕ → Option DocList
list_at None offset = None
list_at (Some run) zero = run.list
list_at (Some run) (suc offset) = None

-- a cut before unit n of the content parts a pair
abbrev pub PartsPair : ContentValue → ℕ → Type 0
PartsPair (json values) n = ⊥
PartsPair (binary blob) n = ⊥
PartsPair (string units) n = IsCut units n
PartsPair (embed t) n = ⊥
PartsPair (format key t) n = ⊥
PartsPair (nested kind) n = ⊥
PartsPair (any ts) n = ⊥
PartsPair (deleted count) n = ⊥

-- the operations of units of a run that were taken, or of units that are gone
abbrev pub operations_told : Bool → List Run → Entry → List Operation
operations_told true runs t = gone_from t.id t.len
operations_told false runs t =
    operations_from t.id t.left t.right (list_at (slice_get runs t.run) t.offset) (take t.len (drop t.offset (units_of (slice_get runs t.run))))

-- the operations of the units that were taken
abbrev pub operations_of_taken : List Run → Entry → List Operation
operations_of_taken runs t = operations_told t.is_gone runs t

-- the list that the first of the units carries
abbrev pub carried_of : List Run → Entry → Option DocList
carried_of runs t = carried t.is_gone
  where
    carried : Bool → Option DocList
    carried true = None
    carried false = list_at (slice_get runs t.run) t.offset

-- the operations of all units that were taken
abbrev pub operations_in : List Run → List Entry → List Operation
operations_in runs [] = []
operations_in runs (t ∷ ts) = operations_of_taken runs t ++ operations_in runs ts

-- the units are some of the run's, which is valid, from an offset on, in whole pairs
pub record IsTold (runs : List Run) (t : Entry) : Type 0 where
  pub within : t.offset + t.len ≤ length (units_of (slice_get runs t.run))
  pub fits : IsClock (t.offset + t.len)
  pub list : CarriesList t.left t.right (list_at (slice_get runs t.run) t.offset)
  pub content : IfSome (slice_get runs t.run) (λ (run : Run). IsValidContent (content_value run.content))
  pub begins_whole : IfSome (slice_get runs t.run) (λ (run : Run). PartsPair (content_value run.content) t.offset → ⊥)
  pub ends_whole : IfSome (slice_get runs t.run) (λ (run : Run). PartsPair (content_value run.content) (t.offset + t.len) → ⊥)

-- nothing is told of them but their ids
pub record IsUntold (t : Entry) : Type 0 where
  pub left : t.left ≡ None
  pub right : t.right ≡ None

-- what is told of the units is so
abbrev pub TellsRight : Bool → List Run → Entry → Type 0
TellsRight true runs t = IsUntold t
TellsRight false runs t = IsTold runs t

-- units that were taken of a run that is there, of its client, with ids in range
pub record IsTakenOf (runs : List Run) (t : Entry) : Type 0 where
  pub run_there : t.run < length runs
  pub client : IfSome (slice_get runs t.run) (λ (run : Run). run.id.client ≡ t.id.client)
  pub has_units : 0 < t.len
  pub id : IsId t.id
  pub end : IsClock (t.id.clock + t.len)
  pub left : IfSome t.left IsId
  pub right : IfSome t.right IsId
  pub told : TellsRight t.is_gone runs t

-- the first is written wholly before the second: of a greater client, or of the same one and ending before it begins
abbrev pub StandsBefore : Entry → Entry → Type 0
StandsBefore s t = (t.id.client.0 < s.id.client.0) ⊎ ((s.id.client ≡ t.id.client) × (s.id.clock + s.len ≤ t.id.clock))

-- all stand in the order of writing, and no id comes twice
abbrev pub AreInOrder : List Entry → Type 0
AreInOrder [] = Unit {0}
AreInOrder (t ∷ ts) = Each (StandsBefore t) ts × AreInOrder ts

-- what was taken of runs, in the order of writing, with whole pairs
pub record AreTaken (runs : List Run) (taken : List Entry) : Type 0 where
  pub each : Each (IsTakenOf runs) taken
  pub in_order : AreInOrder taken
  pub paired : ArePaired (operations_in runs taken)

-- ---- where they stand

-- whether units at the place are held
abbrev pub is_held_at : Place → Bool
is_held_at Waits = false
is_held_at Lost = true
is_held_at (In n) = true

-- whether they are in a list
abbrev pub is_listed_at : Place → Bool
is_listed_at Waits = false
is_listed_at Lost = false
is_listed_at (In n) = true

-- whether the units are held
abbrev pub is_held : Entry → Bool
is_held t = is_held_at t.place

-- whether they are held and not lost, so in a list
abbrev pub is_listed : Entry → Bool
is_listed t = is_listed_at t.place

-- the held operations
abbrev pub held_in : List Run → List Entry → List Operation
held_in runs taken = operations_in runs (filter is_held taken)

-- those of them that are not lost
abbrev pub standing_in : List Run → List Entry → List Operation
standing_in runs taken = operations_in runs (filter is_listed taken)

-- ---- ids and runs

-- whether the id is that of one of the units
abbrev pub covers : Entry → Id → Bool
covers t x = nat_eq t.id.client.0 x.client.0 && (nat_le t.id.clock x.clock && nat_lt x.clock (t.id.clock + t.len))

-- whether the units are of one of the first runs
abbrev pub is_of_first : ℕ → Entry → Bool
is_of_first count t = nat_lt t.run count

-- what was taken of the first runs stays as it was, however few of them are looked at
abbrev pub StaysOfFirst : ℕ → List Entry → List Entry → Type 0
StaysOfFirst count old new = (n : ℕ) → n ≤ count → filter (is_of_first n) new ≡ filter (is_of_first n) old

-- the runs are the old ones, with some more behind them
abbrev pub GrowBy : {X : Type 0} → List X → List X → Type 0
GrowBy {X} old new = (more : List X) × (new ≡ old ++ more)

-- waiting units were added that are of later runs, and nothing else changed
pub record OnlyAdds (count : ℕ) (old new : List Entry) : Type 0 where
  pub first : StaysOfFirst count old new
  pub held : filter is_held new ≡ filter is_held old
