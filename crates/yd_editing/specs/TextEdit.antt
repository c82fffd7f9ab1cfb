-- The edits of a text as steps: insertions, embeds, deletions and formats at indexes of live counted units (own).
use Rattle.std.specs.Prelude.{ℕ, zero, suc, ◌+◌, Bool, false, List, [], ◌∷◌, filter, take, drop, length, map, Option, Some, None, nat_eq, nat_lt, if◌then◌else◌}
use Rattle.std.specs.Str.{bytes_eq}
use Rattle.yd_ids.specs.declared.id.Id.{Id}
use Rattle.yd_ids.specs.declared.id.Span.{Span}
use Rattle.yd_ids.specs.Set.{set_of}
use Rattle.yd_ids.specs.Ids.{is_same}
use Rattle.yd_any.specs.Tree.{AnyTree, null}
use Rattle.yd_ops.specs.declared.lists.List.{List as DocList}
use Rattle.yd_ops.specs.Operation.{UnitContent, text_unit, any_unit, json_unit, bytes, embedded, mark, nested_type, deleted_unit, gone_unit, Operation}
use Rattle.yd_ops.specs.Value.{ContentValue, format, len_of}
use Rattle.yd_meaning.specs.Names.{item_of_list}
use Rattle.yd_meaning.specs.Document.{Document}
use Rattle.yd_meaning.specs.Text.{live_units, has_partner_behind}
use Rattle.yd_shown.specs.Shown.{is_counted}
use Rattle.yd_editing.specs.Step.{Step, make, remove, Refusal, past_end, inside_pair, first_or}
use Rattle.yd_editing.specs.Basis.{Basis}
use Rattle.yd_editing.specs.Made.{units_up_to, units_behind}
use Rattle.yd_editing.specs.Refused.{parent_refusal, refusal_of}

-- ---- indexes

-- the live counted units of a list
abbrev pub counted_units : Document → DocList → List Operation
counted_units document name = filter (λ o. is_counted o.content) (live_units document name)

-- the unit with an index
abbrev pub unit_at : List Operation → ℕ → Option Id
unit_at [] index = None
unit_at (o ∷ os) zero = Some o.id
unit_at (o ∷ os) (suc index) = unit_at os index

-- the unit behind which an insertion at an index is made; at 0 it is made at the front
abbrev pub place_at : List Operation → ℕ → Option Id
place_at units zero = None
place_at units (suc index) = unit_at units index

-- whether an index stands between the two units of a pair
abbrev pub parts_pair : List Operation → ℕ → Bool
parts_pair [] index = false
parts_pair (o ∷ os) zero = false
parts_pair (o ∷ os) (suc zero) = has_partner_behind o os
parts_pair (o ∷ os) (suc (suc index)) = parts_pair os (suc index)

-- ---- insertions, embeds and deletions

-- a content is put behind the unit before the index; an empty one makes nothing
abbrev pub insert_steps : Document → DocList → ℕ → ContentValue → List Step
insert_steps document name index content =
    if nat_eq (len_of content) 0 then [] else make name (place_at (counted_units document name) index) content ∷ []

-- the ids of units
abbrev pub ids_of_units : List Operation → List Span
ids_of_units units = set_of (map (λ (o : Operation). record { client = o.id.client; clock = o.id.clock; len = 1 }) units)

-- units are removed by name
abbrev pub delete_steps : Document → DocList → ℕ → ℕ → List Step
delete_steps document name index len = remove (ids_of_units (take len (drop index (counted_units document name)))) ∷ []

-- ---- formats

-- the unit that stands before another, deleted or not
abbrev pub stands_before : Id → Option Id → List Operation → Option Id
stands_before x before [] = before
stands_before x before (o ∷ os) = if is_same o.id x then before else stands_before x (Some o.id) os

-- the key's value behind a unit, where this one was in force before it
abbrev pub value_after : List ℕ → UnitContent → AnyTree → AnyTree
value_after key (text_unit unit) v = v
value_after key (any_unit value) v = v
value_after key (json_unit value) v = v
value_after key (bytes blob) v = v
value_after key (embedded value) v = v
value_after key (mark k value) v = if bytes_eq k key then value else v
value_after key (nested_type kind) v = v
value_after key deleted_unit v = v
value_after key gone_unit v = v

-- the key's value in force behind live units
abbrev pub value_in_force : List ℕ → List Operation → AnyTree → AnyTree
value_in_force key [] v = v
value_in_force key (o ∷ os) v = value_in_force key os (value_after key o.content v)

-- whether a unit is a mark of the key
abbrev pub is_mark_of : List ℕ → UnitContent → Bool
is_mark_of key (text_unit unit) = false
is_mark_of key (any_unit value) = false
is_mark_of key (json_unit value) = false
is_mark_of key (bytes blob) = false
is_mark_of key (embedded value) = false
is_mark_of key (mark k value) = bytes_eq k key
is_mark_of key (nested_type kind) = false
is_mark_of key deleted_unit = false
is_mark_of key gone_unit = false

-- the key's live marks between two units
abbrev pub marks_between : Document → DocList → List ℕ → Id → Id → List Operation
marks_between document name key first last =
    filter (λ o. is_mark_of key o.content) (units_behind (Some first) (units_up_to (Some last) (live_units document name)))

-- a mark before the first unit, a mark with the value in force behind the last one, and the key's marks between them removed
abbrev pub format_between : Document → DocList → List ℕ → AnyTree → Option Id → Option Id → List Step
format_between document name key value (Some first) (Some last) =
    make name (stands_before first None (document.units name)) (format key value)
    ∷ make name (Some last) (format key (value_in_force key (units_up_to (Some last) (live_units document name)) null))
    ∷ remove (ids_of_units (marks_between document name key first last))
    ∷ []
format_between document name key value None last = []
format_between document name key value (Some first) None = []

-- the format of units from an index on; of none nothing is made
abbrev pub format_steps : Document → DocList → ℕ → ℕ → List ℕ → AnyTree → List Step
format_steps document name index zero key value = []
format_steps document name index (suc len) key value =
    format_between document name key value (unit_at (counted_units document name) index) (unit_at (counted_units document name) (index + len))

-- ---- refusals

-- the list's parent is no type item, where the edit makes something
abbrev pub list_refusal : Basis → DocList → Bool → Option Refusal
list_refusal basis name makes = if makes then parent_refusal basis (item_of_list name) else None

-- an end is past the length
abbrev pub end_refusal : List Operation → ℕ → Option Refusal
end_refusal units end = if nat_lt (length units) end then Some (past_end (length units)) else None

-- an index parts a pair
abbrev pub index_refusal : List Operation → ℕ → Option Refusal
index_refusal units index = if parts_pair units index then Some (inside_pair index) else None

-- the first refusal of an insertion or embed; one of nothing is judged by its index alone
abbrev pub insert_refusal : Basis → DocList → ℕ → ContentValue → Option Refusal
insert_refusal basis name index content =
    first_or (list_refusal basis name (nat_lt 0 (len_of content)))
    (first_or (end_refusal (counted_units basis.document name) index)
    (first_or (index_refusal (counted_units basis.document name) index)
    (refusal_of basis (insert_steps basis.document name index content))))

-- of a deletion
abbrev pub delete_refusal : Basis → DocList → ℕ → ℕ → Option Refusal
delete_refusal basis name index len =
    first_or (end_refusal (counted_units basis.document name) (index + len))
    (first_or (index_refusal (counted_units basis.document name) index)
    (first_or (index_refusal (counted_units basis.document name) (index + len))
    (refusal_of basis (delete_steps basis.document name index len))))

-- of a format
abbrev pub format_refusal : Basis → DocList → ℕ → ℕ → List ℕ → AnyTree → Option Refusal
format_refusal basis name index len key value =
    first_or (list_refusal basis name (nat_lt 0 len))
    (first_or (end_refusal (counted_units basis.document name) (index + len))
    (first_or (index_refusal (counted_units basis.document name) index)
    (first_or (index_refusal (counted_units basis.document name) (index + len))
    (refusal_of basis (format_steps basis.document name index len key value)))))
