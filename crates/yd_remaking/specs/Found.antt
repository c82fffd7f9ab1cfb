-- A group as the pieces of a list give it.
use Rattle.std.specs.Prelude.{◌≡◌, ◌<◌, ℕ, List, ◌++◌, take, drop}
use Rattle.yd_ids.specs.declared.id.Id.{Id}
use Rattle.yd_ops.specs.Operation.{UnitContent, later_id, units_of_content}
use Rattle.yd_ops.specs.View.{content_value}
use Rattle.yd_state.specs.declared.listing.RunView.{RunView}
use Rattle.yd_state.specs.Lent.{Lent, lent_from}
use Rattle.yd_copying.specs.Piece.{content_kind}
use Rattle.yd_remaking.specs.Group.{group_from}

-- what the units of a piece hold
abbrev pub view_units : RunView → List UnitContent
view_units view = take view.len (drop view.offset (units_of_content (content_value view.content.now)))

-- the units of a piece that are so many behind its first or later, and others
abbrev pub units_behind : RunView → ℕ → List Lent → List Lent
units_behind view skipped rest = lent_from (later_id view.id skipped) view.deleted (drop skipped (view_units view)) ++ rest

-- the group that begins there
abbrev pub group_behind_of : RunView → ℕ → ℕ → List Lent → List Lent
group_behind_of view skipped most rest = group_from most (units_behind view skipped rest)

-- a piece goes on a group of a kind with the next id
abbrev pub GoesOn : RunView → ℕ → Id → Type 0
GoesOn view kind next = (0 < kind) × (view.id ≡ next) × (content_kind (content_value view.content.now) ≡ kind)
