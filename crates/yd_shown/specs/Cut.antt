-- Pieces unit by unit, where no text is joined: what a delta and a list give of each unit, and when pieces are those of units.
use Rattle.std.specs.Prelude.{◌≡◌, ◌≢◌, ◌<◌, ℕ, List, [], ◌∷◌, length}
use Rattle.yd_any.specs.Tree.{AnyTree, AnyFields, no_fields}
use Rattle.yd_ops.specs.Operation.{UnitContent, text_unit, any_unit, json_unit, bytes, embedded, nested_type, Operation}
use Rattle.yd_shown.specs.Seen.{text_units}
use Rattle.yd_shown.specs.Pieces.{Piece, text_piece, value_piece, attributes_after, units_of_pieces}

-- ---- units

-- what a unit gives of a delta, in front of pieces
abbrev pub delta_unit : (Operation → AnyTree) → AnyFields → Operation → UnitContent → List Piece → List Piece
delta_unit show attributes o (text_unit unit) ps = text_piece (unit ∷ []) attributes ∷ ps
delta_unit show attributes o (embedded t) ps = value_piece (show o) attributes ∷ ps
delta_unit show attributes o (nested_type kind) ps = value_piece (show o) attributes ∷ ps
delta_unit show attributes o _ ps = ps

-- a delta unit by unit: each text unit, embed and type with the attributes in force
abbrev pub delta_units : (Operation → AnyTree) → AnyFields → List Operation → List Piece
delta_units show attributes [] = []
delta_units show attributes (o ∷ os) = delta_unit show attributes o o.content (delta_units show (attributes_after attributes o.content) os)

-- what a unit gives of a list, in front of pieces
abbrev pub list_unit : (Operation → AnyTree) → Operation → UnitContent → List Piece → List Piece
list_unit show o (text_unit unit) ps = text_piece (unit ∷ []) no_fields ∷ ps
list_unit show o (any_unit t) ps = value_piece (show o) no_fields ∷ ps
list_unit show o (json_unit t) ps = value_piece (show o) no_fields ∷ ps
list_unit show o (bytes b) ps = value_piece (show o) no_fields ∷ ps
list_unit show o (embedded t) ps = value_piece (show o) no_fields ∷ ps
list_unit show o (nested_type kind) ps = value_piece (show o) no_fields ∷ ps
list_unit show o _ ps = ps

-- a list unit by unit: each counted unit
abbrev pub list_units : (Operation → AnyTree) → List Operation → List Piece
list_units show [] = []
list_units show (o ∷ os) = list_unit show o o.content (list_units show os)

-- ---- pieces

-- a text unit by unit, in front of pieces
abbrev pub each_unit : List ℕ → AnyFields → List Piece → List Piece
each_unit [] attributes ps = ps
each_unit (unit ∷ units) attributes ps = text_piece (unit ∷ []) attributes ∷ each_unit units attributes ps

-- pieces with their texts unit by unit
abbrev pub cut_pieces : List Piece → List Piece
cut_pieces [] = []
cut_pieces (text_piece units attributes ∷ ps) = each_unit units attributes (cut_pieces ps)
cut_pieces (value_piece t attributes ∷ ps) = value_piece t attributes ∷ cut_pieces ps

-- no text with these attributes stands first
abbrev pub BeginsApart : AnyFields → List Piece → Type 0
BeginsApart attributes [] = Unit {0}
BeginsApart attributes (text_piece units others ∷ ps) = attributes ≢ others
BeginsApart attributes (value_piece t others ∷ ps) = Unit {0}

-- no text is empty, and neighbouring text differs in its attributes
abbrev pub AreApart : List Piece → Type 0
AreApart [] = Unit {0}
AreApart (text_piece units attributes ∷ ps) = (0 < length units) × BeginsApart attributes ps × AreApart ps
AreApart (value_piece t attributes ∷ ps) = AreApart ps

-- the text of the pieces is that of the operations, unit by unit they are these, and neighbouring text differs in its attributes
pub record ArePiecesOf (os : List Operation) (units ps : List Piece) : Type 0 where
  pub text : units_of_pieces ps ≡ text_units os
  pub cut : cut_pieces ps ≡ units
  pub apart : AreApart ps
