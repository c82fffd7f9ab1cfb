-- How operations that are there are lowered, and what can be put back meanwhile (own).
use Rattle.std.specs.Prelude.{◌≡◌, ℕ, ◌+◌, ◌<◌, ◌≤◌, ◌⊎◌, Bool, true, false, ◌||◌, ◌&&◌, nat_eq, nat_le, nat_lt, List, Option, Some, None, Result, OnOk, map, set, slice_get, length, if◌then◌else◌}
use Rattle.yd_words.specs.Each.{Each}
use Rattle.yd_words.specs.Member.{IsIn}
use Rattle.yd_ids.specs.declared.id.Id.{Id}
use Rattle.yd_ids.specs.Ids.{is_same}
use Rattle.yd_ops.specs.declared.runs.Run.{Run}
use Rattle.yd_ops.specs.Operation.{Operation, later_id, level_of, as_level}
use Rattle.yd_ops.specs.Value.{ContentValue, json, binary, string, embed, format, nested, any, deleted, RunValue}
use Rattle.yd_ops.specs.View.{content_value}
use Rattle.yd_ops.specs.Pairs.{is_high, is_low, is_text_and, as_torn}
use Rattle.yd_entries.specs.declared.entry.Entry.{Entry}
use Rattle.yd_entries.specs.declared.fault.NoMemory.{NoMemory}
use Rattle.yd_entries.specs.Entries.{IsTakenOf, AreInOrder, operations_of_taken, operations_in, list_at, StaysOfFirst, OnlyAdds}
use Rattle.yd_entries.specs.Staying.{IsLess, KeepsPlaces}
use Rattle.yd_entries.specs.Taking.{EndsBy, BeginsBehind}

-- whether the id is one of so many from one on
abbrev pub is_among : Id → ℕ → Id → Bool
is_among id count x = nat_eq id.client.0 x.client.0 && (nat_le id.clock x.clock && nat_lt x.clock (id.clock + count))

-- an operation; a half that a cut before the id parts from its partner is U+FFFD
abbrev pub torn_at : Id → Operation → Operation
torn_at x o = as_torn ((is_text_and is_high o.content && is_same (later_id o.id 1) x) || (is_text_and is_low o.content && is_same o.id x)) o

-- an operation, down to a level where it is one of so many from an id on
abbrev pub lowered_at : Id → ℕ → ℕ → Operation → Operation
lowered_at id count level o = if is_among id count o.id && nat_lt level (level_of o.content) then as_level level o else o

-- an operation after so many from an id on were lowered
abbrev pub lowered_with : Id → ℕ → ℕ → Operation → Operation
lowered_with id count level o = lowered_at id count level (torn_at (later_id id count) (torn_at id o))

-- the level to which deleted units lower, or ones that are gone
abbrev pub level_from : Bool → ℕ
level_from true = 0
level_from false = 1

-- one of the operations is one of so many from an id on, and says more than the level
abbrev pub SaysMore : Id → ℕ → ℕ → List Operation → Type 0
SaysMore id count level os = (o : Operation) × IsIn o os × (is_among id count o.id ≡ true) × (level < level_of o.content)

-- the operations were lowered
pub record Lowers (old_runs : List Run) (old : List Entry) (runs : List Run) (taken : List Entry) (id : Id) (count level : ℕ) : Type 0 where
  pub operations : operations_in runs taken ≡ map (lowered_with id count level) (operations_in old_runs old)
  pub each : Each (IsTakenOf runs) taken
  pub in_order : AreInOrder taken

-- ---- entries

-- no entry has units on both sides of the id
abbrev pub IsBeside : Id → Entry → Type 0
IsBeside x t = EndsBy x t ⊎ BeginsBehind x 0 t

-- an entry begins at the id, or none has units on both sides of it, and a pair that this parted is torn
pub record Begins (old_runs : List Run) (old : List Entry) (runs : List Run) (taken : List Entry) (x : Id) : Type 0 where
  pub operations : operations_in runs taken ≡ map (torn_at x) (operations_in old_runs old)
  pub each : Each (IsTakenOf runs) taken
  pub in_order : AreInOrder taken
  pub beside : Each (IsBeside x) taken
  pub others : (y : Id) → Each (IsBeside y) old → Each (IsBeside y) taken
  pub places : KeepsPlaces old_runs old runs taken

-- so many units from an id on were lowered, where no entry has others beside them
pub record LowersWhole (old_runs : List Run) (old : List Entry) (runs : List Run) (taken : List Entry) (id : Id) (count level : ℕ) : Type 0 where
  pub operations : operations_in runs taken ≡ map (lowered_at id count level) (operations_in old_runs old)
  pub each : Each (IsTakenOf runs) taken
  pub in_order : AreInOrder taken
  pub places : KeepsPlaces old_runs old runs taken

-- whether the units are of the id's client and begin before so many from it on end
abbrev pub begins_within : Id → ℕ → Entry → Bool
begins_within id count t = nat_eq t.id.client.0 id.client.0 && nat_lt t.id.clock (id.clock + count)

-- how much a content tells of its units
abbrev pub level_of_content : ContentValue → ℕ
level_of_content (json values) = 2
level_of_content (binary blob) = 2
level_of_content (string units) = 2
level_of_content (embed t) = 2
level_of_content (format key t) = 2
level_of_content (nested kind) = 2
level_of_content (any ts) = 2
level_of_content (deleted count) = 1

-- how much a run tells of its units, where there is one
abbrev pub level_of_run : Option Run → ℕ
level_of_run None = 0
level_of_run (Some run) = level_of_content (content_value run.content)

-- how much is told of the units
abbrev pub level_told : Bool → List Run → Entry → ℕ
level_told true runs t = 0
level_told false runs t = level_of_run (slice_get runs t.run)

abbrev pub level_of_entry : List Run → Entry → ℕ
level_of_entry runs t = level_told t.is_gone runs t

-- the units, of which no more than their ids is told
abbrev pub as_gone : Entry → Entry
as_gone t = record { id = t.id; len = t.len; left = None; right = None; run = t.run; offset = t.offset; is_gone = true; place = t.place }

-- the units, told by another run from an offset on
abbrev pub with_run : Entry → ℕ → ℕ → Entry
with_run t index offset = record { id = t.id; len = t.len; left = t.left; right = t.right; run = index; offset = offset; is_gone = t.is_gone; place = t.place }

-- a run of its own for an entry's units, with their neighbours and another content
abbrev pub own_run : List Run → Entry → ContentValue → RunValue
own_run runs t content = record { id = t.id; left = t.left; right = t.right; list = list_at (slice_get runs t.run) t.offset; content = content }

-- an operation, down to a level where it says more
abbrev pub down_to : ℕ → Operation → Operation
down_to level o = if nat_lt level (level_of o.content) then as_level level o else o

-- an entry is as it was, or gone, or of a later run that tells nothing but deleted units and U+FFFD
abbrev pub BecomesLess : List Run → Entry → List Run → Entry → Type 0
BecomesLess old_runs t runs u = (u ≡ t) ⊎ ((u.is_gone ≡ true) ⊎ ((length old_runs ≤ u.run) × ((o : Operation) → IsIn o (operations_of_taken runs u) → IsLess o)))

-- an entry was lowered
pub record LowersEntry (old_runs : List Run) (old : List Entry) (runs : List Run) (taken : List Entry) (at level : ℕ) : Type 0 where
  pub entry : Entry
  pub new : Entry
  pub there : slice_get old at ≡ Some entry
  pub placed : taken ≡ set old at new
  pub id : new.id ≡ entry.id
  pub len : new.len ≡ entry.len
  pub place : new.place ≡ entry.place
  pub of_run : IsTakenOf runs new
  pub operations : operations_of_taken runs new ≡ map (down_to level) (operations_of_taken old_runs entry)
  pub low : level_of_entry runs new ≤ level
  pub less : BecomesLess old_runs entry runs new

-- ---- what can be put back

-- while no entries are kept aside, waiting units of later runs were added, and nothing else; from then on these are kept
abbrev pub IsBacked : ℕ → Option (List Entry) → List Entry → Option (List Entry) → List Entry → Type 0
IsBacked count None old None new = OnlyAdds count old new
IsBacked count None old (Some kept) new = StaysOfFirst count old kept
IsBacked count (Some before) old None new = ⊥
IsBacked count (Some before) old (Some kept) new = kept ≡ before

-- a copy of the entries is kept, unless some were kept
abbrev pub KeepsAside : List Entry → Option (List Entry) → Option (List Entry) → Result (Unit {0}) NoMemory → Type 0
KeepsAside taken None None result = OnOk result ⊥
KeepsAside taken None (Some kept) result = kept ≡ taken
KeepsAside taken (Some before) None result = ⊥
KeepsAside taken (Some before) (Some kept) result = kept ≡ before
