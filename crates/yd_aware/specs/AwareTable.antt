-- A table with its own client, and what becomes of the own state.
use Rattle.std.specs.Prelude.{ℕ, ◌-◌, ◌^◌, Bool, List, [], Option, Some, None, IfSome, is_some, if◌then◌else◌, nat_le}
use Rattle.yd_words.specs.Each.{Each}
use Rattle.yd_ids.specs.declared.id.Client.{Client}
use Rattle.yd_ids.specs.Id.{IsClient}
use Rattle.yd_sync.specs.Entry.{IsEntry}
use Rattle.yd_sync.specs.Standing.{Standing, absent}
use Rattle.yd_sync.specs.Table.{AreRows, Row, after_local, entry_of, standing_in}
use Rattle.yd_sync.specs.TableEvent.{TableEvent, table_after}

-- the own client, where there is one, and what is known of each client
pub record AwareTable : Type 0 where
  pub own : Option Client
  pub rows : List Row

-- what a row tells is an entry
abbrev pub IsRow : Row → Type 0
IsRow row = IsEntry (entry_of row)

-- clients ascend, and what rows tell are entries
pub record IsTable (rows : List Row) : Type 0 where
  pub ascend : AreRows rows
  pub told : Each IsRow rows

-- the own client's number is one too
pub record IsAwareTable (table : AwareTable) : Type 0 where
  pub owner : IfSome table.own IsClient
  pub kept : IsTable table.rows

-- nothing was heard of anybody
abbrev pub nobody : Option Client → AwareTable
nobody own = record { own = own; rows = [] }

-- the table with other rows
abbrev pub with_rows : AwareTable → List Row → AwareTable
with_rows table rows = record { own = table.own; rows = rows }

-- the table after something that happened
abbrev pub after_event : TableEvent → AwareTable → AwareTable
after_event event table = with_rows table (table_after table.own event table.rows)

-- ---- the own client

-- its clock and state
abbrev pub own_standing : Option Client → List Row → Standing
own_standing None rows = absent
own_standing (Some own) rows = standing_in rows own.0

-- its clock is the greatest
abbrev pub is_clock_full : Option Client → List Row → Bool
is_clock_full own rows = nat_le (2 ^ 53 - 1) (own_standing own rows).clock

-- the rows after its state was set at a moment
abbrev pub after_set : Option Client → Option (List ℕ) → ℕ → List Row → List Row
after_set None state now rows = rows
after_set (Some own) state now rows = after_local own state now rows

-- the rows after its state, where it has one, was set again at a moment
abbrev pub after_renewal : Option Client → ℕ → List Row → List Row
after_renewal own now rows = if is_some (own_standing own rows).state then after_set own (own_standing own rows).state now rows else rows
