-- A unit of a list, found among the units that are lent.
use Rattle.std.specs.Prelude.{ℕ, ◌+◌, Bool, false, List, [], ◌∷◌, Option, Some, None, nat_lt, if◌then◌else◌}
use Rattle.yd_ids.specs.declared.id.Id.{Id}
use Rattle.yd_ids.specs.Ids.{is_same}
use Rattle.yd_ops.specs.Operation.{UnitContent, later_id}
use Rattle.yd_ops.specs.Pairs.{is_high, is_text_and}
use Rattle.yd_state.specs.declared.listing.RunView.{RunView}
use Rattle.yd_state.specs.Lent.{Lent}
use Rattle.yd_making.specs.declared.finding.Found.{Found}

-- the id of the first of lent units
abbrev pub first_id : List Lent → Option Id
first_id [] = None
first_id (u ∷ us) = Some u.id

-- the unit with an id, as it is found: whether it is the first half of a pair, and which unit stands behind it
abbrev pub found_in : Id → List Lent → Option Found
found_in x [] = None
found_in x (u ∷ us) = if is_same u.id x then Some (record { is_high = is_text_and is_high u.content; next = first_id us }) else found_in x us

-- whether a unit, where there is one, is the first half of a pair
abbrev pub is_high_unit : Option UnitContent → Bool
is_high_unit None = false
is_high_unit (Some unit) = is_text_and is_high unit

-- the id behind the unit that is so many behind the first of a piece, where the others come behind the piece
abbrev pub next_in : RunView → ℕ → List Lent → Option Id
next_in piece skipped rest = if nat_lt (skipped + 1) piece.len then Some (later_id piece.id (skipped + 1)) else first_id rest
