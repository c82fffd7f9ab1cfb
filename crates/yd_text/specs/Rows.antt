-- Units in a row of ids, a unit that is sought among them, and the unit before it (own).
use Rattle.std.specs.Prelude.{ℕ, zero, suc, Bool, false, ◌||◌, List, [], ◌∷◌, Option, Some, if◌then◌else◌}
use Rattle.yd_ids.specs.declared.id.Id.{Id}
use Rattle.yd_ids.specs.Ids.{is_same}
use Rattle.yd_ops.specs.Operation.{later_id}
use Rattle.yd_state.specs.Lent.{Lent}

-- whether an id is one of so many in a row, from one on
abbrev pub is_in_row : Id → ℕ → Id → Bool
is_in_row id zero x = false
is_in_row id (suc n) x = is_same id x || is_in_row (later_id id 1) n x

-- the last of so many ids in a row, and where there is none, what was before
abbrev pub last_in_row : Option Id → Id → ℕ → Option Id
last_in_row before id zero = before
last_in_row before id (suc n) = Some (later_id id n)

-- the unit before another among units that are lent, deleted or not; what was before them comes before the first
abbrev pub unit_before : Id → Option Id → List Lent → Option Id
unit_before x before [] = before
unit_before x before (u ∷ us) = if is_same u.id x then before else unit_before x (Some u.id) us
