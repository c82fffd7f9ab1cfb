-- A key's marks among units that are lent: its value in force, and those of them between two units (own).
use Rattle.std.specs.Prelude.{◌↔◌, ◌⊎◌, ℕ, Bool, false, ◌&&◌, ◌||◌, List, [], ◌∷◌, ◌++◌, Option, Some, None, if◌then◌else◌}
use Rattle.std.specs.Str.{bytes_eq}
use Rattle.yd_words.specs.Each.{Each}
use Rattle.yd_words.specs.Member.{IsIn}
use Rattle.yd_ids.specs.declared.id.Id.{Id}
use Rattle.yd_ids.specs.declared.id.Span.{Span}
use Rattle.yd_ids.specs.Ids.{is_same}
use Rattle.yd_ids.specs.Set.{HasId}
use Rattle.yd_any.specs.JsonView.{json_tree}
use Rattle.yd_any.specs.Tree.{AnyTree, null}
use Rattle.yd_any.specs.declared.json_value.Json.{Json as JsonValue}
use Rattle.yd_ops.specs.Value.{ContentValue, json, binary, string, embed, format, nested, any, deleted}
use Rattle.yd_grouping.specs.Groupable.{IsValidUnitContent}
use Rattle.yd_editing.specs.TextEdit.{value_after, is_mark_of}
use Rattle.yd_state.specs.Lent.{Lent}

-- ---- the value in force

-- a value that is given, and null where none is
abbrev pub value_given : Option JsonValue → AnyTree
value_given None = null
value_given (Some value) = json_tree value

-- the key's value behind units of a content, where this one was in force before them
abbrev pub value_behind : List ℕ → ContentValue → AnyTree → AnyTree
value_behind key (json units) v = v
value_behind key (binary blob) v = v
value_behind key (string units) v = v
value_behind key (embed value) v = v
value_behind key (format k value) v = if bytes_eq k key then value else v
value_behind key (nested kind) v = v
value_behind key (any values) v = v
value_behind key (deleted count) v = v

-- the key's value in force behind a live unit, where this one was in force before those that are lent
abbrev pub value_up_to : List ℕ → Id → AnyTree → List Lent → AnyTree
value_up_to key x v [] = v
value_up_to key x v (u ∷ us) =
    if u.is_deleted then value_up_to key x v us
    else (if is_same u.id x then value_after key u.content v else value_up_to key x (value_after key u.content v) us)

-- what units hold that are lent is valid
abbrev pub HoldValid : List Lent → Type 0
HoldValid us = Each (λ (u : Lent). IsValidUnitContent u.content) us

-- ---- marks between two units

-- whether the units of a content are marks of the key
abbrev pub are_marks_of : List ℕ → ContentValue → Bool
are_marks_of key (json units) = false
are_marks_of key (binary blob) = false
are_marks_of key (string units) = false
are_marks_of key (embed value) = false
are_marks_of key (format k value) = bytes_eq k key
are_marks_of key (nested kind) = false
are_marks_of key (any values) = false
are_marks_of key (deleted count) = false

-- the id, where the test holds
abbrev pub id_where : Bool → Id → List Id
id_where test x = if test then x ∷ [] else []

-- the ids of the key's live marks between two live units, the first of which came or not
abbrev pub marks_up_to : List ℕ → Id → Id → Bool → List Lent → List Id
marks_up_to key first last came [] = []
marks_up_to key first last came (u ∷ us) =
    if u.is_deleted then marks_up_to key first last came us
    else id_where (came && is_mark_of key u.content) u.id ++ (if is_same u.id last then [] else marks_up_to key first last (came || is_same u.id first) us)

-- a set has got the id, where the test holds, and no other
abbrev pub GetsWhere : Bool → Id → List Span → List Span → Type 0
GetsWhere test id old new = (x : Id) → HasId new x ↔ (HasId old x ⊎ IsIn x (id_where test id))
