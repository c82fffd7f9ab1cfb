-- A store that goes back to the clocks that it had before runs came into it (own).
use Rattle.std.specs.Prelude.{◌≡◌, ◌<◌, ◌≤◌, ℕ, Bool, true, List, [], Some, filter, length, nat_lt, slice_get}
use Rattle.yd_ids.specs.declared.id.Id.{Id}
use Rattle.yd_ops.specs.declared.lists.List.{List as DocList}
use Rattle.yd_ops.specs.Operation.{Operation}
use Rattle.yd_origins.specs.Table.{Row}
use Rattle.yd_arena.specs.Arena.{Placed, count_of, units_in, next_clock}
use Rattle.yd_store.specs.Store.{Stored}
use Rattle.yd_store.specs.Taking.{TakesBack}
use Rattle.yd_ops.specs.Received.{has_operation, IsWritten}
use Rattle.yd_meaning.specs.Staying.{StaysHeld}
use Rattle.yd_arena.specs.Rows.{rows_in}
use Rattle.yd_kept.specs.Filling.{FillsLists, GrowsFrom}

-- whether an id is below the next clock of its client
abbrev pub is_below : Placed → Id → Bool
is_below placed x = nat_lt x.clock (next_clock placed x.client.0)

-- a store goes back to the next clocks of another: of each list the rows below them stay, in their order
pub record GoesBack (start mid back : Placed) : Type 0 where
  pub count : count_of back ≡ count_of mid
  pub rows : (list : ℕ) → list < count_of mid → rows_in back list ≡ filter (λ (row : Row). is_below start row.id) (rows_in mid list)
  pub nexts : (client : ℕ) → next_clock back client ≡ next_clock start client

-- the lists are filled with the part again: those that there were have their units in their order, and those that are new none
pub record IsFilledAgain (part : List Operation) (names : List DocList) (start : Placed) (more : List DocList) (back : Placed) : Type 0 where
  pub fills : FillsLists part more back
  pub same : (n : ℕ) (name : DocList) → slice_get names n ≡ Some name → units_in back n ≡ units_in start n
  pub none : (n : ℕ) (name : DocList) → slice_get more n ≡ Some name → length names ≤ n → units_in back n ≡ []

-- so it is where more came into the store since then, and the store goes back
abbrev pub GoingBackIsAgain : Type 0
GoingBackIsAgain = (part held : List Operation) → IsWritten held → StaysHeld part held → (names more : List DocList) (start mid back : Placed) →
    ((x : Id) → x.clock < next_clock start x.client.0 → has_operation part x ≡ true) → FillsLists part names start → FillsLists held more mid →
    GrowsFrom held names start more mid → GoesBack start mid back → IsFilledAgain part names start more back

-- a store has gone back from another: of each list the rows below its own next clocks are left, in their order
pub record HasGoneBack (mid back : Placed) : Type 0 where
  pub count : count_of back ≡ count_of mid
  pub rows : (list : ℕ) → list < count_of mid → rows_in back list ≡ filter (λ (row : Row). is_below back row.id) (rows_in mid list)

-- so it is at the start, and where one more client's units are taken back; and at the next clocks of another it has gone back to it
pub record GoingBackGoesOn : Type 0 where
  pub start : (held : List Operation) (names : List DocList) (placed : Placed) → FillsLists held names placed → HasGoneBack placed placed
  pub on : (from : Placed) (mid new : Stored) (client clock : ℕ) → HasGoneBack from mid.placed → clock ≤ next_clock mid.placed client →
      TakesBack mid new client clock → HasGoneBack from new.placed
  pub end : (start mid back : Placed) → HasGoneBack mid back → ((client : ℕ) → next_clock back client ≡ next_clock start client) → GoesBack start mid back
