-- Deltas and lists: units as pieces of text and values (Yjs 13, toDelta and toJSON; that neighbouring text with the same attributes is one piece is own).
use Rattle.std.specs.Prelude.{ℕ, List, [], ◌∷◌, ◌++◌, codes, if◌then◌else◌}
use Rattle.yd_units.specs.Text.{text_of}
use Rattle.yd_any.specs.Tree.{AnyTree, AnyTrees, AnyFields, null, str, pairs, no_trees, tree, no_fields, field}
use Rattle.yd_any.specs.Carried.{put}
use Rattle.yd_any.specs.Keys.{is_same}
use Rattle.yd_ops.specs.Operation.{UnitContent, text_unit, any_unit, json_unit, bytes, embedded, mark, nested_type, Operation}
use Rattle.yd_any.specs.Same.{same_fields}

-- ---- attributes

-- the fields without a key
abbrev pub without_key : List ℕ → AnyFields → AnyFields
without_key key no_fields = no_fields
without_key key (field other t fs) = if is_same key other then fs else field other t (without_key key fs)

-- a mark sets its key, and null removes it
abbrev pub with_attribute : List ℕ → AnyTree → AnyFields → AnyFields
with_attribute key null attributes = without_key key attributes
with_attribute key t attributes = put key t attributes

-- the attributes in force behind a unit
abbrev pub attributes_after : AnyFields → UnitContent → AnyFields
attributes_after attributes (mark key t) = with_attribute key t attributes
attributes_after attributes _ = attributes

-- ---- pieces

-- text of these units, or one value, each with its attributes
pub data Piece : Type 0 where
  text_piece : List ℕ → AnyFields → Piece
  value_piece : AnyTree → AnyFields → Piece

-- a text unit in front of pieces: it joins the text behind it where the attributes are the same
abbrev pub unit_before : ℕ → AnyFields → List Piece → List Piece
unit_before unit attributes [] = text_piece (unit ∷ []) attributes ∷ []
unit_before unit attributes (text_piece units others ∷ ps) =
    if same_fields attributes others then text_piece (unit ∷ units) others ∷ ps else text_piece (unit ∷ []) attributes ∷ text_piece units others ∷ ps
unit_before unit attributes (value_piece t others ∷ ps) = text_piece (unit ∷ []) attributes ∷ value_piece t others ∷ ps

-- a unit's content in front of the pieces of a delta: any-values, JSON units and bytes give no piece, and nothing that is deleted does
abbrev pub delta_before : (Operation → AnyTree) → AnyFields → Operation → UnitContent → List Piece → List Piece
delta_before show attributes o (text_unit unit) ps = unit_before unit attributes ps
delta_before show attributes o (embedded t) ps = value_piece (show o) attributes ∷ ps
delta_before show attributes o (nested_type kind) ps = value_piece (show o) attributes ∷ ps
delta_before show attributes o _ ps = ps

-- the pieces of a delta, under the attributes in force
abbrev pub delta_pieces : (Operation → AnyTree) → AnyFields → List Operation → List Piece
delta_pieces show attributes [] = []
delta_pieces show attributes (o ∷ os) = delta_before show attributes o o.content (delta_pieces show (attributes_after attributes o.content) os)

-- a unit's content in front of the pieces of a list: each counted unit is a value, and text is joined
abbrev pub value_before : (Operation → AnyTree) → Operation → UnitContent → List Piece → List Piece
value_before show o (text_unit unit) ps = unit_before unit no_fields ps
value_before show o (any_unit t) ps = value_piece (show o) no_fields ∷ ps
value_before show o (json_unit t) ps = value_piece (show o) no_fields ∷ ps
value_before show o (bytes b) ps = value_piece (show o) no_fields ∷ ps
value_before show o (embedded t) ps = value_piece (show o) no_fields ∷ ps
value_before show o (nested_type kind) ps = value_piece (show o) no_fields ∷ ps
value_before show o _ ps = ps

-- the pieces of a list
abbrev pub list_pieces : (Operation → AnyTree) → List Operation → List Piece
list_pieces show [] = []
list_pieces show (o ∷ os) = value_before show o o.content (list_pieces show os)

-- the text units of pieces
abbrev pub units_of_pieces : List Piece → List ℕ
units_of_pieces [] = []
units_of_pieces (text_piece units attributes ∷ ps) = units ++ units_of_pieces ps
units_of_pieces (value_piece t attributes ∷ ps) = units_of_pieces ps

-- ---- pieces as they are shown

-- a value with its attributes, where there are any
abbrev pub with_attributes : AnyFields → AnyTree → AnyTree
with_attributes no_fields t = pairs (field (codes "insert") t no_fields)
with_attributes attributes t = pairs (field (codes "attributes") (pairs attributes) (field (codes "insert") t no_fields))

-- the value of a piece
abbrev pub value_of_piece : Piece → AnyTree
value_of_piece (text_piece units attributes) = str (text_of units)
value_of_piece (value_piece t attributes) = t

-- the attributes of a piece
abbrev pub attributes_of_piece : Piece → AnyFields
attributes_of_piece (text_piece units attributes) = attributes
attributes_of_piece (value_piece t attributes) = attributes

-- pieces with their attributes
abbrev pub inserts_of : List Piece → AnyTrees
inserts_of [] = no_trees
inserts_of (p ∷ ps) = tree (with_attributes (attributes_of_piece p) (value_of_piece p)) (inserts_of ps)

-- the values of pieces
abbrev pub values_of : List Piece → AnyTrees
values_of [] = no_trees
values_of (p ∷ ps) = tree (value_of_piece p) (values_of ps)
