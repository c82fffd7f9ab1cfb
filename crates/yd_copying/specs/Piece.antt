-- Units of a content, some of them in a row, and what is asked of them.
use Rattle.std.specs.Prelude.{◌≡◌, ◌<◌, ◌≤◌, ◌+◌, ℕ, Bool, true, false, List, [], ◌∷◌, ◌++◌, take, drop}
use Rattle.yd_words.specs.Each.{Each}
use Rattle.yd_ops.specs.Operation.{UnitContent, units_of_content}
use Rattle.yd_ops.specs.Value.{ContentValue, json, binary, string, embed, format, nested, any, deleted, len_of}
use Rattle.yd_ops.specs.View.{content_value}
use Rattle.yd_grouping.specs.Groupable.{IsValidUnitContent}
use Rattle.yd_copying.specs.declared.pieces.Piece.{Piece}

-- whether the units of a content can be made again
abbrev pub can_make : ContentValue → Bool
can_make (json units) = true
can_make (binary blob) = true
can_make (string units) = true
can_make (embed value) = true
can_make (format key value) = true
can_make (nested kind) = false
can_make (any values) = true
can_make (deleted count) = false

-- the kind of the units of a content
abbrev pub content_kind : ContentValue → ℕ
content_kind (json units) = 3
content_kind (binary blob) = 0
content_kind (string units) = 1
content_kind (embed value) = 0
content_kind (format key value) = 0
content_kind (nested kind) = 0
content_kind (any values) = 2
content_kind (deleted count) = 0

-- the units of a piece
abbrev pub piece_units : Piece → List UnitContent
piece_units piece = take piece.len (drop piece.offset (units_of_content (content_value piece.content.now)))

-- those of pieces, in order
abbrev pub pieces_units : List Piece → List UnitContent
pieces_units [] = []
pieces_units (piece ∷ pieces) = piece_units piece ++ pieces_units pieces

-- a piece has units of its content, which are of the kind, valid, and can be made again
pub record IsPiece (kind : ℕ) (piece : Piece) : Type 0 where
  pub some : 0 < piece.len
  pub within : piece.offset + piece.len ≤ len_of (content_value piece.content.now)
  pub kind_is : content_kind (content_value piece.content.now) ≡ kind
  pub makeable : can_make (content_value piece.content.now) ≡ true
  pub valid : Each IsValidUnitContent (piece_units piece)

-- the kind of the first piece
abbrev pub first_kind : List Piece → ℕ
first_kind [] = 0
first_kind (piece ∷ pieces) = content_kind (content_value piece.content.now)
