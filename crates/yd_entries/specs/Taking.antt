-- What an update brings that was not received before, and how its structs are taken in, unit after unit (own).
use Rattle.std.specs.Prelude.{◌≡◌, ◌↔◌, ℕ, zero, suc, ◌+◌, ◌-◌, ◌<◌, ◌≤◌, ◌⊎◌, Bool, true, false, ◌||◌, ◌&&◌, nat_eq, nat_le, nat_lt, List, [], ◌∷◌, ◌++◌, Option, Some, None, length, take, drop, slice_get, IfSome}
use Rattle.yd_words.specs.Each.{Each}
use Rattle.yd_words.specs.Member.{IsIn}
use Rattle.yd_ids.specs.declared.id.Id.{Id}
use Rattle.yd_ids.specs.Id.{IsId, IsClient, IsClock}
use Rattle.yd_ops.specs.declared.lists.List.{List as DocList}
use Rattle.yd_ops.specs.declared.runs.Run.{Run}
use Rattle.yd_ops.specs.Operation.{Operation, later_id, level_of, gone_from, operations_of_run, operations_of}
use Rattle.yd_ops.specs.Value.{ContentValue, string, deleted, len_of, RunValue, UpdateValue}
use Rattle.yd_ops.specs.Valid.{IsValidContent, CarriesList}
use Rattle.yd_ops.specs.View.{run_value}
use Rattle.yd_ops.specs.Pairs.{as_torn}
use Rattle.yd_ops.specs.Received.{has_operation}
use Rattle.yd_ops.specs.ReceivedLaw.{AreAPair}
use Rattle.yd_entries.specs.declared.entry.Entry.{Entry}
use Rattle.yd_entries.specs.declared.place.Place.TheVariants.{Waits}
use Rattle.yd_entries.specs.Entries.{IsTakenOf, AreInOrder, operations_of_taken, operations_in, covers, PartsPair, GrowBy}

-- the id of an operation was not received, or the received one says more
abbrev pub IsNews : List Operation → Operation → Type 0
IsNews received o = (has_operation received o.id ≡ false) ⊎ ((p : Operation) × IsIn p received × (p.id ≡ o.id) × (level_of o.content < level_of p.content))

-- one of the operations has an id that no received operation has, or says less than the one that has it
abbrev pub BringsOne : List Operation → List Operation → Type 0
BringsOne os received = (o : Operation) × IsIn o os × IsNews received o

-- an operation of the update has an id that no received operation has, or says less than the one that has it
abbrev pub BringsOperation : UpdateValue → List Operation → Type 0
BringsOperation update received = BringsOne (operations_of update) received

-- ---- ids that came before

-- whether the id is that of a unit that was taken
abbrev pub is_covered : List Entry → Id → Bool
is_covered [] x = false
is_covered (t ∷ ts) x = covers t x || is_covered ts x

-- so many ids from one on are those of units that were taken
abbrev pub AreCovered : List Entry → Id → ℕ → Type 0
AreCovered taken id count = (k : ℕ) → k < count → is_covered taken (later_id id k) ≡ true

-- the units have ids
abbrev pub HasUnits : Entry → Type 0
HasUnits t = 0 < t.len

-- the units are written wholly before an id
abbrev pub EndsBy : Id → Entry → Type 0
EndsBy id t = (id.client.0 < t.id.client.0) ⊎ ((t.id.client ≡ id.client) × (t.id.clock + t.len ≤ id.clock))

-- whether they are
abbrev pub ends_by : Id → Entry → Bool
ends_by id t = nat_lt id.client.0 t.id.client.0 || (nat_eq t.id.client.0 id.client.0 && nat_le (t.id.clock + t.len) id.clock)

-- the units are not written wholly before an id
abbrev pub EndsBehind : Id → Entry → Type 0
EndsBehind id t = (t.id.client.0 < id.client.0) ⊎ ((t.id.client ≡ id.client) × (id.clock < t.id.clock + t.len))

-- the units are written wholly behind so many ids
abbrev pub BeginsBehind : Id → ℕ → Entry → Type 0
BeginsBehind id count t = (t.id.client.0 < id.client.0) ⊎ ((id.client ≡ t.id.client) × (id.clock + count ≤ t.id.clock))

-- so many ids from one on have their place between the units that were taken
pub record IsRoom (taken : List Entry) (at : ℕ) (id : Id) (count : ℕ) : Type 0 where
  pub bound : at ≤ length taken
  pub before : Each (EndsBy id) (take at taken)
  pub behind : Each (BeginsBehind id count) (drop at taken)

-- and the id behind them is that of a unit that was taken, if there are fewer than so many
pub record IsGap (taken : List Entry) (at : ℕ) (id : Id) (count most : ℕ) : Type 0 where
  pub room : IsRoom taken at id count
  pub ends : count < most → is_covered taken (later_id id count) ≡ true

-- ---- units of a run

-- the left origin of a run's unit n: that of the run, or else the unit before
abbrev pub left_at : Id → Option Id → ℕ → Option Id
left_at id left zero = left
left_at id left (suc n) = Some (later_id id n)

-- the list that a run's unit n carries
abbrev pub list_from : Option DocList → ℕ → Option DocList
list_from list zero = list
list_from list (suc n) = None

-- a run's unit n as U+FFFD, as a run of its own
abbrev pub half_at : RunValue → ℕ → RunValue
half_at run n = record {
  id = later_id run.id n;
  left = left_at run.id run.left n;
  right = run.right;
  list = list_from run.list n;
  content = string (0xFFFD ∷ []);
}

-- what is kept of units of a run from unit n on, which are those of a kept run from an offset on
abbrev pub entry_of : RunValue → ℕ → ℕ → ℕ → ℕ → Entry
entry_of run n index offset count = record {
  id = later_id run.id n;
  len = count;
  left = left_at run.id run.left n;
  right = run.right;
  run = index;
  offset = offset;
  is_gone = false;
  place = Waits;
}

-- what is kept of units that are gone
abbrev pub gone_entry : Id → ℕ → ℕ → Entry
gone_entry id index count = record { id = id; len = count; left = None; right = None; run = index; offset = 0; is_gone = true; place = Waits }

-- what is kept of a run's units from unit n on, or of units that are gone, which are those of a kept run
abbrev pub entry_from : Bool → RunValue → ℕ → ℕ → ℕ → Entry
entry_from true run n index count = gone_entry (later_id run.id n) index count
entry_from false run n index count = entry_of run n index n count

-- units from one on, of those up to another that are new: whole pairs that are taken as they are, or one half of a pair
-- whose other half is not new, which is taken as U+FFFD
pub record IsPiece (content : ContentValue) (from to count : ℕ) (is_torn : Bool) : Type 0 where
  pub bound : (0 < count) × (from + count ≤ to)
  pub torn : is_torn ≡ true → (count ≡ 1) × (PartsPair content from ⊎ (PartsPair content to × (from + 1 ≡ to)))
  pub whole : is_torn ≡ false → ¬ (PartsPair content from) × (from + count ≡ to → ¬ (PartsPair content to))
  pub rest : PartsPair content (from + count) → from + count ≡ to

-- ---- steps

-- the operations of a run, or of as many units that are gone
abbrev pub operations_from_run : Bool → RunValue → List Operation
operations_from_run true run = gone_from run.id (len_of run.content)
operations_from_run false run = operations_of_run run

-- the run has origins or a list; one that stands for units that are gone has no content
abbrev pub HasOrigins : Bool → RunValue → Type 0
HasOrigins true run = run.content ≡ deleted (len_of run.content)
HasOrigins false run = IfSome run.left IsId × IfSome run.right IsId × CarriesList run.left run.right run.list

-- the run is valid wherever it stands, or stands for units that are gone
pub record IsRun (is_gone : Bool) (run : RunValue) : Type 0 where
  pub has_units : 0 < len_of run.content
  pub origins : HasOrigins is_gone run
  pub content : IsValidContent run.content
  pub client : IsClient run.id.client
  pub end : IsClock (run.id.clock + len_of run.content)

-- the run is kept at this place
pub record IsKept (runs : List Run) (at : ℕ) (run : RunValue) : Type 0 where
  pub kept : Run
  pub there : slice_get runs at ≡ Some kept
  pub same : run_value kept ≡ run

-- what was taken has more operations, with so many ids from one on, at a place between the others
pub record Adds (old_runs : List Run) (old : List Entry) (runs : List Run) (taken : List Entry) (at : ℕ) (id : Id) (count : ℕ) (os : List Operation) : Type 0 where
  pub grows : GrowBy old_runs runs
  pub entry : Entry
  pub placed : taken ≡ take at old ++ entry ∷ drop at old
  pub of_run : IsTakenOf runs entry
  pub first : entry.id ≡ id
  pub as_many : entry.len ≡ count
  pub operations : operations_of_taken runs entry ≡ os

-- the operations of a piece of a run, or of units that are gone
abbrev pub operations_of_piece : Bool → RunValue → ℕ → ℕ → Bool → List Operation
operations_of_piece is_gone run from count true = operations_of_run (half_at run from)
operations_of_piece is_gone run from count false = take count (drop from (operations_from_run is_gone run))

-- the units of a run from one up to another were taken before, and nothing changes
pub record IsPassed (old_runs : List Run) (old : List Entry) (runs : List Run) (taken : List Entry) (run : RunValue) (from count : ℕ) : Type 0 where
  pub same_runs : runs ≡ old_runs
  pub same_taken : taken ≡ old
  pub covered : AreCovered old (later_id run.id from) count

-- or they are the first piece of those that are new, and are taken
pub record IsTakenNext (is_gone : Bool) (old_runs : List Run) (old : List Entry) (runs : List Run) (taken : List Entry) (run : RunValue) (from count : ℕ) : Type 0 where
  pub at : ℕ
  pub new : ℕ
  pub torn : Bool
  pub gap : IsGap old at (later_id run.id from) new (len_of run.content - from)
  pub piece : IsPiece run.content from (from + new) count torn
  pub adds : Adds old_runs old runs taken at (later_id run.id from) count (operations_of_piece is_gone run from count torn)

-- what was received is as it was, with no more runs
abbrev pub AreUnchanged : List Run → List Entry → List Run → List Entry → Type 0
AreUnchanged old_runs old runs taken = (runs ≡ old_runs) × (taken ≡ old)

-- a half whose partner comes with it, and the id of that was there
abbrev pub IsParted : List Operation → List Operation → Operation → Type 0
IsParted group old o = (p : Operation) × IsIn p group × AreAPair o p × (has_operation old p.id ≡ true)

-- an operation that is new: as it came, or as U+FFFD
abbrev pub IsAddedAs : List Operation → List Operation → Operation → Operation → Type 0
IsAddedAs group old o q = ((q ≡ o) × (IsParted group old o → ⊥)) ⊎ ((q ≡ as_torn true o) × IsParted group old o)

-- the operation is one of those with new ids, as it was taken
abbrev pub IsAdded : List Operation → List Operation → List Operation → Operation → Type 0
IsAdded group old part q = (o : Operation) × IsIn o part × (has_operation old o.id ≡ false) × IsAddedAs group old o q

-- operations with new ids were added, and none that was there is another
pub record AddsGroup (old_runs : List Run) (old : List Entry) (runs : List Run) (taken : List Entry) (group : List Operation) : Type 0 where
  pub operations : (q : Operation) → IsIn q (operations_in runs taken) ↔ (IsIn q (operations_in old_runs old) ⊎ IsAdded group (operations_in old_runs old) group q)
  pub each : Each (IsTakenOf runs) taken
  pub in_order : AreInOrder taken

-- one of the operations has a new id
abbrev pub AddsOne : List Operation → List Operation → Type 0
AddsOne group old = (o : Operation) × IsIn o group × (has_operation old o.id ≡ false)
