-- How structs are taken in, one after another (own).
use Rattle.std.specs.Prelude.{◌≡◌, ℕ, ◌+◌, Bool, true, false, List, Option, Some, None, filter}
use Rattle.yd_ids.specs.declared.id.Id.{Id}
use Rattle.yd_ids.specs.Id.{IsClient, IsClock}
use Rattle.yd_ops.specs.declared.runs.Run.{Run}
use Rattle.yd_ops.specs.Operation.{Operation}
use Rattle.yd_ops.specs.Value.{deleted, clocks_of, RunValue, StructValue}
use Rattle.yd_ops.specs.Valid.{IsStructAt}
use Rattle.yd_ops.specs.Received.{with_groups}
use Rattle.yd_received.specs.declared.brought.Brought.{Brought}
use Rattle.yd_received.specs.declared.brought.Brought.TheVariants.{Nothing, Added, Lowered}
use Rattle.yd_entries.specs.declared.entry.Entry.{Entry}
use Rattle.yd_entries.specs.Entries.{AreTaken, operations_in, is_of_first}
use Rattle.yd_entries.specs.Staying.{KeepsPlaces}
use Rattle.yd_received.specs.Received.{LowersOne}

-- the struct begins at the id, and ends at a clock
pub record IsStructOf (id : Id) (s : StructValue) : Type 0 where
  pub client : IsClient id.client
  pub at : IsStructAt id.client id.clock s
  pub end : IsClock (id.clock + clocks_of s)

-- the run that stands for so many units that are gone, from an id on
abbrev pub gone_run : Id → ℕ → RunValue
gone_run id count = record { id = id; left = None; right = None; list = None; content = deleted count }

-- groups are taken in: what was taken is what the definition says, and all units stay at their places
pub record TakesIn (old_runs : List Run) (old : List Entry) (runs : List Run) (taken : List Entry) (groups : List (List Operation)) : Type 0 where
  pub received : operations_in runs taken ≡ with_groups groups (operations_in old_runs old)
  pub kept : AreTaken runs taken
  pub places : KeepsPlaces old_runs old runs taken

-- where no entries were kept aside and some are now, one of the operations says less than one that was there
abbrev pub KeepsToLower : Option (List Entry) → Option (List Entry) → List Operation → List Operation → Type 0
KeepsToLower None None os received = Unit {0}
KeepsToLower None (Some kept) os received = LowersOne os received
KeepsToLower (Some before) new os received = Unit {0}

-- ---- the end

-- the entries that were kept aside, if some were, or else these
abbrev pub kept_of : Option (List Entry) → List Entry → List Entry
kept_of None taken = taken
kept_of (Some kept) taken = kept

-- what an update brought: nothing, or new units; or, where entries were kept aside, less of some, and those of the first
-- runs are handed out
abbrev pub IsBroughtBy : ℕ → Option (List Entry) → Bool → Brought → Type 0
IsBroughtBy count before false result = result ≡ Nothing
IsBroughtBy count None true result = result ≡ Added
IsBroughtBy count (Some kept) true result = IsLowered result
  where
    IsLowered : Brought → Type 0
    IsLowered Nothing = ⊥
    IsLowered Added = ⊥
    IsLowered (Lowered entries) = entries ≡ filter (is_of_first count) kept
