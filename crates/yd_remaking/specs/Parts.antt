-- A group as it is found, in pieces that are lent.
use Rattle.std.specs.Prelude.{◌≡◌, ◌<◌, ◌-◌, ◌+◌, min, ℕ, List, [], Option, Some, None, length, map, IfSome}
use Rattle.yd_words.specs.Each.{Each}
use Rattle.yd_ids.specs.declared.id.Id.{Id}
use Rattle.yd_ids.specs.Id.{IsId}
use Rattle.yd_ops.specs.Operation.{UnitContent}
use Rattle.yd_state.specs.declared.listing.RunView.{RunView}
use Rattle.yd_state.specs.Lent.{Lent}
use Rattle.yd_remaking.specs.Rows.{unit_before}
use Rattle.yd_copying.specs.Piece.{IsPiece, first_kind, pieces_units}
use Rattle.yd_copying.specs.declared.pieces.Piece.{Piece}
use Rattle.yd_remaking.specs.declared.finding.Group.{Group}
use Rattle.yd_remaking.specs.Group.{units_from, group_from}

-- what units held
abbrev pub contents_of : List Lent → List UnitContent
contents_of us = map (λ (u : Lent). u.content) us

-- the part of a piece from a unit on, no longer than so many
abbrev pub part_of : RunView → ℕ → ℕ → Piece
part_of view skipped most = record { content = view.content; offset = view.offset + skipped; len = min (view.len - skipped) most }

-- what is found is the group that begins with an id in a list, and the unit before it
pub record IsFound (us : List Lent) (x : Id) (most : ℕ) (group : Group) : Type 0 where
  pub before : group.before ≡ unit_before x None us
  pub in_range : IfSome group.before IsId
  pub units : pieces_units group.pieces.items ≡ contents_of (group_from most (units_from x us))
  pub len : group.len ≡ length (group_from most (units_from x us))
  pub some : 0 < length group.pieces.items
  pub pieces : Each (IsPiece (first_kind group.pieces.items)) group.pieces.items

-- it is found, or there is none
abbrev pub IsGroupAt : List Lent → Id → ℕ → Option Group → Type 0
IsGroupAt us x most None = group_from most (units_from x us) ≡ []
IsGroupAt us x most (Some group) = IsFound us x most group
