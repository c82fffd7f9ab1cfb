-- What a reader of a document sees: a parent as text, delta, list, map or tree, with the types that lie in it (Yjs 13, toString,
-- toDelta and toJSON; the objects with one key that begins with a dollar sign are own).
use Rattle.std.specs.Prelude.{ℕ, zero, suc, Bool, true, false, ◌&&◌, not, List, [], ◌∷◌, Option, Some, None, option_map, codes, if◌then◌else◌}
use Rattle.yd_units.specs.Text.{text_of}
use Rattle.yd_any.specs.Tree.{AnyTree, AnyFields, undefined, flag, str, list, pairs, blob, no_fields, field}
use Rattle.yd_any.specs.Printed.{printed}
use Rattle.yd_ids.specs.declared.id.Id.{Id}
use Rattle.yd_ops.specs.declared.kinds.Kind.{Kind}
use Rattle.yd_ops.specs.declared.kinds.Kind.TheVariants.{Map, Text, Element, Hook, ElementText}
use Rattle.yd_ops.specs.declared.lists.List.{List as DocList}
use Rattle.yd_ops.specs.declared.lists.Parent.{Parent}
use Rattle.yd_ops.specs.declared.lists.Parent.TheVariants.{Item}
use Rattle.yd_ops.specs.Operation.{UnitContent, text_unit, any_unit, json_unit, bytes, embedded, mark, nested_type, deleted_unit, gone_unit, Operation}
use Rattle.yd_meaning.specs.Document.{Document}
use Rattle.yd_meaning.specs.Text.{shown_text}
use Rattle.yd_shown.specs.Seen.{seen_units}
use Rattle.yd_shown.specs.Pieces.{delta_pieces, list_pieces, inserts_of, values_of}

-- ---- lists

-- the list of a parent's own
abbrev pub own_list : Parent → DocList
own_list parent = record { parent = parent; key = None }

-- the list under a key of a parent
abbrev pub key_list : Parent → List ℕ → DocList
key_list parent key = record { parent = parent; key = Some key }

-- the text of a parent, as a value
abbrev pub text_value : Document → Parent → AnyTree
text_value document parent = str (text_of (shown_text document (own_list parent)))

-- the delta of a parent
abbrev pub shown_delta : (Operation → AnyTree) → Document → Parent → AnyTree
shown_delta show document parent = list (inserts_of (delta_pieces show no_fields (seen_units document (own_list parent))))

-- the list of a parent
abbrev pub shown_list : (Operation → AnyTree) → Document → Parent → AnyTree
shown_list show document parent = list (values_of (list_pieces show (seen_units document (own_list parent))))

-- ---- maps

-- whether a unit counts as a value: marks do not, nor what is deleted or gone
abbrev pub is_counted : UnitContent → Bool
is_counted (mark key t) = false
is_counted deleted_unit = false
is_counted gone_unit = false
is_counted _ = true

-- the last of units
abbrev pub last_unit : List Operation → Option Operation
last_unit [] = None
last_unit (o ∷ []) = Some o
last_unit (o ∷ p ∷ ps) = last_unit (p ∷ ps)

-- a unit, where it is there, live and counted
abbrev pub if_shown : (Id → Bool) → Option Operation → Option Operation
if_shown deleted None = None
if_shown deleted (Some o) = if not (deleted o.id) && is_counted o.content then Some o else None

-- the unit that stands under a key: the last one of its list, where it is live and counted
abbrev pub unit_under : Document → Parent → List ℕ → Option Operation
unit_under document parent key = if_shown document.deleted (last_unit (document.units (key_list parent key)))

-- the value under a key
abbrev pub value_under : (Operation → AnyTree) → Document → Parent → List ℕ → Option AnyTree
value_under show document parent key = option_map show (unit_under document parent key)

-- a key with its value, where there is one, in front of fields
abbrev pub field_before : List ℕ → Option AnyTree → AnyFields → AnyFields
field_before key None fs = fs
field_before key (Some t) fs = field key t fs

-- the fields of keys
abbrev pub fields_under : (Operation → AnyTree) → Document → Parent → List (List ℕ) → AnyFields
fields_under show document parent [] = no_fields
fields_under show document parent (key ∷ keys) =
    field_before key (value_under show document parent key) (fields_under show document parent keys)

-- the fields of a parent's map
abbrev pub map_fields : (Operation → AnyTree) → Document → Parent → AnyFields
map_fields show document parent = fields_under show document parent (document.keys parent)

-- the map of a parent
abbrev pub shown_map : (Operation → AnyTree) → Document → Parent → AnyTree
shown_map show document parent = pairs (map_fields show document parent)

-- ---- trees

-- the tree of a parent: its map as attributes, and its list as children
abbrev pub shown_tree : (Operation → AnyTree) → Document → Parent → AnyFields → AnyTree
shown_tree show document parent more =
    pairs (field (codes "attributes") (shown_map show document parent) (field (codes "children") (shown_list show document parent) more))

-- ---- types inside one another

-- a nested type by its kind
abbrev pub shown_type : (Operation → AnyTree) → Document → Parent → Kind → AnyTree
shown_type show document parent Map = shown_map show document parent
shown_type show document parent Text = text_value document parent
shown_type show document parent (Element name) = shown_tree show document parent (field (codes "name") (str name) no_fields)
shown_type show document parent (Hook name) =
    pairs (field (codes "attributes") (shown_map show document parent) (field (codes "hook") (str name) no_fields))
shown_type show document parent ElementText = shown_delta show document parent
shown_type show document parent _ = shown_list show document parent

-- the value of what a unit holds; what has no value is undefined, and is never asked for
abbrev pub value_of_content : (Kind → AnyTree) → UnitContent → AnyTree
value_of_content show (text_unit unit) = str (text_of (unit ∷ []))
value_of_content show (any_unit t) = t
value_of_content show (json_unit None) = undefined
value_of_content show (json_unit (Some t)) = t
value_of_content show (bytes b) = blob b
value_of_content show (embedded t) = t
value_of_content show (nested_type kind) = show kind
value_of_content show _ = undefined

-- in place of a type that lies too deep
abbrev pub too_deep : AnyTree
too_deep = pairs (field (codes "$deep") (flag true) no_fields)

-- the value of a unit, with at most so many types inside one another
abbrev pub value_within : ℕ → Document → Operation → AnyTree
value_within zero document o = value_of_content (λ kind. too_deep) o.content
value_within (suc n) document o = value_of_content (shown_type (value_within n document) document (Item o.id)) o.content

-- ---- modes

-- how a parent is shown
pub data Mode : Type 0 where
  as_text : Mode
  as_delta : Mode
  as_list : Mode
  as_map : Mode
  as_tree : Mode

-- a parent in a mode, with at most so many types inside one another
abbrev pub shown_within : ℕ → Document → Parent → Mode → AnyTree
shown_within n document parent as_text = text_value document parent
shown_within n document parent as_delta = shown_delta (value_within n document) document parent
shown_within n document parent as_list = shown_list (value_within n document) document parent
shown_within n document parent as_map = shown_map (value_within n document) document parent
shown_within n document parent as_tree = shown_tree (value_within n document) document parent no_fields

-- a type inside so many others is not shown
unfoldable pub most_types : ℕ
most_types = 100

-- a parent in a mode
abbrev pub shown : Document → Parent → Mode → AnyTree
shown document parent mode = shown_within most_types document parent mode

-- the text that is printed of what is shown: a text as it is, and all else as JSON
abbrev pub printed_text : Mode → AnyTree → List ℕ
printed_text as_text (str text) = text
printed_text _ t = printed t
