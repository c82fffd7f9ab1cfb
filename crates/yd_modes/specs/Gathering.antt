-- What is gathered of a list so far, and the pieces that it makes with what comes.
use Rattle.std.specs.Prelude.{◌≡◌, ◌⊎◌, ℕ, Bool, false, List, [], ◌∷◌, ◌++◌, Option, Some, None, map}
use Rattle.yd_units.specs.Text.{text_of}
use Rattle.yd_any.specs.Tree.{AnyTree, AnyTrees, AnyFields, str, no_trees, tree}
use Rattle.yd_ids.specs.declared.id.Id.{Id}
use Rattle.yd_ops.specs.Operation.{UnitContent, Operation}
use Rattle.yd_state.specs.Lent.{Lent}
use Rattle.yd_value.specs.View.{shown_tree, shown_fields}
use Rattle.yd_shown.specs.Pieces.{Piece, unit_before, value_of_piece, attributes_of_piece, with_attributes}
use Rattle.yd_view.specs.declared.halves.Seen.{Seen}
use Rattle.yd_modes.specs.declared.gathering.Gathering.{Gathering}
use Rattle.yd_modes.specs.declared.piece.Piece.{Piece as MadePiece}
use Rattle.yd_modes.specs.Roles.{Way, pieces_by, joins_last, whole_units}
use Rattle.yd_view.specs.Halves.{shown_last}
use Rattle.yd_modes.specs.Marks.{marks_fields}

-- ---- pieces as they are told

-- a value, and its attributes
abbrev pub Told : Type 0
Told = AnyTree × AnyFields

-- a piece as it is told, its text as a value
abbrev pub told : Piece → Told
told p = (value_of_piece p, attributes_of_piece p)

-- a piece that was made, as it is told
abbrev pub made : MadePiece → Told
made p = (shown_tree p.insert, shown_fields p.attributes)

-- text units under these attributes, in front of pieces
abbrev pub units_before : List ℕ → AnyFields → List Piece → List Piece
units_before [] attributes ps = ps
units_before (unit ∷ units) attributes ps = unit_before unit attributes (units_before units attributes ps)

-- ---- what is gathered

-- pieces, and behind them those of an open text with its last unit and of the units that come
abbrev pub parts : Way → (Operation → AnyTree) → List Told → List ℕ → Bool → Option Seen → AnyFields → AnyFields → List Lent → List Told
parts way show pieces text joined last under marks us =
    pieces ++ map told (units_before (text ++ shown_last joined last (joins_last last us) []) under (pieces_by way show marks (whole_units (joins_last last us) us)))

-- the pieces of what is gathered and of the units that come
abbrev pub gathered : Way → (Operation → AnyTree) → Gathering → List Lent → List Told
gathered way show g us =
    parts way show (map made g.pieces.items) g.halves.shown.items g.halves.joined g.halves.last (marks_fields g.under.items) (marks_fields g.marks.items) us

-- no text unit came last
abbrev pub IsSilent : Option Seen → Type 0
IsSilent None = Unit {0}
IsSilent (Some last) = last.unit ≡ None

-- the attributes of the open text are those in force, or no text unit came last
abbrev pub IsSettled : Gathering → Type 0
IsSettled g = (marks_fields g.under.items ≡ marks_fields g.marks.items) ⊎ IsSilent g.halves.last

-- these units came next
pub record Gathers (way : Way) (show : Operation → AnyTree) (old new : Gathering) (came : List Lent) : Type 0 where
  pub pieces : (us : List Lent) → gathered way show new us ≡ gathered way show old (came ++ us)
  pub settled : IsSettled new

-- ---- single steps

-- the open text as a piece, where it has a unit
abbrev pub closed_text : List ℕ → AnyFields → List Told
closed_text [] attributes = []
closed_text (unit ∷ units) attributes = (str (text_of (unit ∷ units)), attributes) ∷ []

-- the open text became a piece
pub record Closes (old new : Gathering) : Type 0 where
  pub pieces : map made new.pieces.items ≡ map made old.pieces.items ++ closed_text old.halves.shown.items (marks_fields old.under.items)
  pub shown : new.halves.shown.items ≡ []
  pub last : new.halves.last ≡ old.halves.last
  pub joined : new.halves.joined ≡ old.halves.joined
  pub marks : new.marks.items ≡ old.marks.items

-- a unit that is no text came
pub record Flushes (old new : Gathering) (id : Id) : Type 0 where
  pub pieces : new.pieces.items ≡ old.pieces.items
  pub shown : new.halves.shown.items ≡ old.halves.shown.items ++ shown_last old.halves.joined old.halves.last false []
  pub last : new.halves.last ≡ Some (record { id = id; unit = None })
  pub joined : new.halves.joined ≡ false
  pub under : new.under.items ≡ old.under.items
  pub marks : new.marks.items ≡ old.marks.items

-- a live unit
abbrev pub live : Id → UnitContent → Lent
live id content = record { id = id; content = content; is_deleted = false }

-- ---- what is made of pieces

-- the values of pieces that are told
abbrev pub told_values : List Told → AnyTrees
told_values [] = no_trees
told_values (p ∷ ps) = tree p.0 (told_values ps)

-- a piece that is told, as an object
abbrev pub told_insert : Told → AnyTree
told_insert p = with_attributes p.1 p.0

-- pieces that are told, as objects
abbrev pub told_inserts : List Told → AnyTrees
told_inserts [] = no_trees
told_inserts (p ∷ ps) = tree (told_insert p) (told_inserts ps)
