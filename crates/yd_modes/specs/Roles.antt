-- What live units give of a delta and of a list, one after another: in one way of words for both (own).
use Rattle.std.specs.Prelude.{◌≡◌, ℕ, Bool, true, false, ◌&&◌, ◌||◌, not, List, [], ◌∷◌, Option, Some, None, if◌then◌else◌}
use Rattle.yd_words.specs.Each.{Each}
use Rattle.yd_any.specs.Tree.{AnyTree, AnyFields, undefined, no_fields, field}
use Rattle.yd_ids.specs.declared.id.Id.{Id}
use Rattle.yd_ops.specs.declared.contents.Content.{Content}
use Rattle.yd_ops.specs.declared.contents.Content.TheVariants.{Json, Binary, Str, Embed, Format, Nested, Any, Deleted}
use Rattle.yd_ops.specs.Operation.{UnitContent, text_unit, any_unit, json_unit, bytes, embedded, mark, nested_type, deleted_unit, gone_unit, Operation}
use Rattle.yd_ops.specs.Pairs.{is_high, is_low}
use Rattle.yd_state.specs.Lent.{Lent}
use Rattle.yd_shown.specs.Pieces.{Piece, value_piece, with_attribute, unit_before}
use Rattle.yd_shown.specs.Shown.{value_of_content}
use Rattle.yd_view.specs.declared.halves.Seen.{Seen}
use Rattle.yd_view.specs.Halves.{joins, seen_of}

-- ---- roles

-- in which way units are gathered: as a delta, text, embeds and types under the attributes that marks set, or as a list, text and all values
pub data Way : Type 0 where
  Delta : Way
  Values : Way

-- what a unit does among others: it is text, or a value, or sets an attribute, or does nothing
pub data Role : Type 0 where
  is_text : ℕ → Role
  is_value : Role
  sets_attribute : List ℕ → AnyTree → Role
  is_idle : Role

-- in a delta, embeds and types are values, and marks set attributes
abbrev pub role_in_delta : UnitContent → Role
role_in_delta (text_unit unit) = is_text unit
role_in_delta (any_unit t) = is_idle
role_in_delta (json_unit t) = is_idle
role_in_delta (bytes blob) = is_idle
role_in_delta (embedded t) = is_value
role_in_delta (mark key t) = sets_attribute key t
role_in_delta (nested_type kind) = is_value
role_in_delta deleted_unit = is_idle
role_in_delta gone_unit = is_idle

-- in a list all counted units but text are values, and there are no attributes
abbrev pub role_in_list : UnitContent → Role
role_in_list (text_unit unit) = is_text unit
role_in_list (any_unit t) = is_value
role_in_list (json_unit t) = is_value
role_in_list (bytes blob) = is_value
role_in_list (embedded t) = is_value
role_in_list (mark key t) = is_idle
role_in_list (nested_type kind) = is_value
role_in_list deleted_unit = is_idle
role_in_list gone_unit = is_idle

-- the role of a unit
abbrev pub role_of : Way → UnitContent → Role
role_of Delta content = role_in_delta content
role_of Values content = role_in_list content

-- ---- pieces

-- a unit in front of pieces
abbrev pub role_before : (Operation → AnyTree) → AnyFields → Operation → Role → List Piece → List Piece
role_before show attributes o (is_text unit) ps = unit_before unit attributes ps
role_before show attributes o is_value ps = value_piece (show o) attributes ∷ ps
role_before show attributes o (sets_attribute key t) ps = ps
role_before show attributes o is_idle ps = ps

-- the attributes in force behind a unit
abbrev pub role_after : AnyFields → Role → AnyFields
role_after attributes (is_text unit) = attributes
role_after attributes is_value = attributes
role_after attributes (sets_attribute key t) = with_attribute key t attributes
role_after attributes is_idle = attributes

-- the pieces of units, under the attributes in force
abbrev pub pieces_by : Way → (Operation → AnyTree) → AnyFields → List Operation → List Piece
pieces_by way show attributes [] = []
pieces_by way show attributes (o ∷ os) =
    role_before show attributes o (role_of way o.content) (pieces_by way show (role_after attributes (role_of way o.content)) os)

-- ---- units as they are shown

-- an operation with an id and a content, and nothing else
abbrev pub bare : Id → UnitContent → Operation
bare id content = record { id = id; left_origin = None; right_origin = None; list = None; content = content }

-- whether a unit is the partner of the first of others
abbrev pub joins_next : Seen → List Lent → Bool
joins_next seen [] = false
joins_next seen (u ∷ us) = joins seen (seen_of u)

-- whether the unit before, where there is one, is the partner of the first of others
abbrev pub joins_last : Option Seen → List Lent → Bool
joins_last None us = false
joins_last (Some last) us = joins_next last us

-- a content as it is shown between two others: U+FFFD for a half whose partner is not beside it
abbrev pub whole_content : Bool → UnitContent → Bool → UnitContent
whole_content joined (text_unit unit) joins = text_unit (if (is_high unit && not joins) || (is_low unit && not joined) then 0xFFFD else unit)
whole_content joined (any_unit t) joins = any_unit t
whole_content joined (json_unit t) joins = json_unit t
whole_content joined (bytes blob) joins = bytes blob
whole_content joined (embedded t) joins = embedded t
whole_content joined (mark key t) joins = mark key t
whole_content joined (nested_type kind) joins = nested_type kind
whole_content joined deleted_unit joins = deleted_unit
whole_content joined gone_unit joins = gone_unit

-- live units as they are shown, where it is known whether the one before is the partner of the first
abbrev pub whole_units : Bool → List Lent → List Operation
whole_units joined [] = []
whole_units joined (u ∷ us) = bare u.id (whole_content joined u.content (joins_next (seen_of u) us)) ∷ whole_units (joins_next (seen_of u) us) us

-- the live units of what is lent
abbrev pub live_lent : List Lent → List Lent
live_lent [] = []
live_lent (u ∷ us) = if u.is_deleted then live_lent us else u ∷ live_lent us

-- units do nothing
abbrev pub AreIdle : Way → List Lent → Type 0
AreIdle way us = Each (λ (u : Lent). role_of way u.content ≡ is_idle) us

-- ---- values

-- whether a content is a type
abbrev pub is_nested : UnitContent → Bool
is_nested (nested_type kind) = true
is_nested _ = false

-- the value of a content that is no type
abbrev pub plain_value : UnitContent → AnyTree
plain_value content = value_of_content (λ kind. undefined) content

-- what is no type is shown as its value
abbrev pub ShowsPlain : (Operation → AnyTree) → Type 0
ShowsPlain show = (id : Id) (content : UnitContent) → is_nested content ≡ false → show (bare id content) ≡ plain_value content

-- ---- units of a content

-- units are all gathered as values, and none is a type
abbrev pub ArePlainValues : Way → List UnitContent → Type 0
ArePlainValues way us = Each (λ (u : UnitContent). (role_of way u ≡ is_value) × (is_nested u ≡ false)) us

-- units all do nothing
abbrev pub AreIdleUnits : Way → List UnitContent → Type 0
AreIdleUnits way us = Each (λ (u : UnitContent). role_of way u ≡ is_idle) us

-- whether units are gathered as a list
abbrev pub are_listed : Way → Bool
are_listed Delta = false
are_listed Values = true

-- a content is no text, no mark and no type
abbrev pub IsOther : Content → Type 0
IsOther (Str units) = ⊥
IsOther (Format key value) = ⊥
IsOther (Nested kind) = ⊥
IsOther (Json units) = Unit {0}
IsOther (Binary blob) = Unit {0}
IsOther (Embed value) = Unit {0}
IsOther (Any values) = Unit {0}
IsOther (Deleted count) = Unit {0}

-- whether the units of a content that are no text, no marks and no types are values
abbrev pub are_values : Way → Content → Bool
are_values way (Json units) = are_listed way
are_values way (Binary blob) = are_listed way
are_values way (Str units) = false
are_values way (Embed value) = true
are_values way (Format key value) = false
are_values way (Nested kind) = false
are_values way (Any values) = are_listed way
are_values way (Deleted count) = false

-- whether the units of a content count as values
abbrev pub are_counted : Content → Bool
are_counted (Json units) = true
are_counted (Binary blob) = true
are_counted (Str units) = true
are_counted (Embed value) = true
are_counted (Format key value) = false
are_counted (Nested kind) = true
are_counted (Any values) = true
are_counted (Deleted count) = false

-- ---- fields

-- fields in front of others
abbrev pub joined_fields : AnyFields → AnyFields → AnyFields
joined_fields no_fields gs = gs
joined_fields (field k t fs) gs = field k t (joined_fields fs gs)
