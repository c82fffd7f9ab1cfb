-- The last unit of a list that is named and can be made again (own).
use Rattle.std.specs.Prelude.{ℕ, zero, suc, List, [], ◌∷◌, Option, Some, if◌then◌else◌}
use Rattle.yd_ids.specs.declared.id.Id.{Id}
use Rattle.yd_ids.specs.declared.id.Span.{Span}
use Rattle.yd_ops.specs.Operation.{later_id}
use Rattle.yd_meaning.specs.Held.{is_named}
use Rattle.yd_ops.specs.View.{content_value}
use Rattle.yd_state.specs.declared.listing.RunView.{RunView}
use Rattle.yd_state.specs.Lent.{Lent}
use Rattle.yd_copying.specs.Piece.{can_make}
use Rattle.yd_copying.specs.Content.{can_be_made}

-- an id where it is named, and else what was before
abbrev pub named_or : List Span → Id → Option Id → Option Id
named_or named x before = if is_named named x then Some x else before

-- the last of so many ids in a row that is named, and where there is none, what was before
abbrev pub last_named : List Span → Option Id → Id → ℕ → Option Id
last_named named before x zero = before
last_named named before x (suc n) = last_named named (named_or named x before) (later_id x 1) n

-- the last of a piece's units that is named and can be made, and where there is none, what was before
abbrev pub last_in : List Span → Option Id → RunView → Option Id
last_in named before view = if can_make (content_value view.content.now) then last_named named before view.id view.len else before

-- the id of the last of some units that is named and can be made, and where there is none, what was before
abbrev pub last_made : List Span → Option Id → List Lent → Option Id
last_made named before [] = before
last_made named before (u ∷ us) = last_made named (if can_be_made u.content then named_or named u.id before else before) us
