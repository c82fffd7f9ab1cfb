-- Pieces that are built from the front, unit after unit, as a reader does who goes along a list once.
use Rattle.std.specs.Prelude.{◌≡◌, ℕ, List, [], ◌∷◌, ◌++◌, if◌then◌else◌}
use Rattle.yd_any.specs.Tree.{AnyTree, AnyFields, no_fields}
use Rattle.yd_ops.specs.Operation.{UnitContent, text_unit, any_unit, json_unit, bytes, embedded, nested_type, Operation}
use Rattle.yd_any.specs.Same.{same_fields}
use Rattle.yd_shown.specs.Pieces.{Piece, text_piece, value_piece, attributes_after, delta_pieces, list_pieces}

-- a text unit behind pieces: it joins the text that stands last where the attributes are the same
abbrev pub unit_behind : List Piece → ℕ → AnyFields → List Piece
unit_behind [] unit attributes = text_piece (unit ∷ []) attributes ∷ []
unit_behind (text_piece units others ∷ []) unit attributes =
    if same_fields others attributes then text_piece (units ++ unit ∷ []) others ∷ [] else text_piece units others ∷ text_piece (unit ∷ []) attributes ∷ []
unit_behind (value_piece t others ∷ []) unit attributes = value_piece t others ∷ text_piece (unit ∷ []) attributes ∷ []
unit_behind (p ∷ q ∷ ps) unit attributes = p ∷ unit_behind (q ∷ ps) unit attributes

-- a value behind pieces
abbrev pub value_behind : List Piece → AnyTree → AnyFields → List Piece
value_behind ps t attributes = ps ++ value_piece t attributes ∷ []

-- what a unit gives of a delta, behind pieces
abbrev pub delta_behind : (Operation → AnyTree) → List Piece → AnyFields → Operation → UnitContent → List Piece
delta_behind show ps attributes o (text_unit unit) = unit_behind ps unit attributes
delta_behind show ps attributes o (embedded t) = value_behind ps (show o) attributes
delta_behind show ps attributes o (nested_type kind) = value_behind ps (show o) attributes
delta_behind show ps attributes o _ = ps

-- the pieces of a delta, behind those so far and under the attributes in force
abbrev pub delta_from : (Operation → AnyTree) → List Piece → AnyFields → List Operation → List Piece
delta_from show ps attributes [] = ps
delta_from show ps attributes (o ∷ os) = delta_from show (delta_behind show ps attributes o o.content) (attributes_after attributes o.content) os

-- what a unit gives of a list, behind pieces
abbrev pub list_behind : (Operation → AnyTree) → List Piece → Operation → UnitContent → List Piece
list_behind show ps o (text_unit unit) = unit_behind ps unit no_fields
list_behind show ps o (any_unit t) = value_behind ps (show o) no_fields
list_behind show ps o (json_unit t) = value_behind ps (show o) no_fields
list_behind show ps o (bytes b) = value_behind ps (show o) no_fields
list_behind show ps o (embedded t) = value_behind ps (show o) no_fields
list_behind show ps o (nested_type kind) = value_behind ps (show o) no_fields
list_behind show ps o _ = ps

-- the pieces of a list, behind those so far
abbrev pub list_from : (Operation → AnyTree) → List Piece → List Operation → List Piece
list_from show ps [] = ps
list_from show ps (o ∷ os) = list_from show (list_behind show ps o o.content) os

-- from the front the same pieces come
pub record PiecesFromFront : Type 0 where
  pub delta : (show : Operation → AnyTree) (attributes : AnyFields) (os : List Operation) → delta_from show [] attributes os ≡ delta_pieces show attributes os
  pub list : (show : Operation → AnyTree) (os : List Operation) → list_from show [] os ≡ list_pieces show os
