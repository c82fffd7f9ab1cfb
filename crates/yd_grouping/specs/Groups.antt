-- Groups: the operations of one struct, and which of them join (Yjs 13, Item.mergeWith and GC.mergeWith; that all that join are joined is own).
use Rattle.std.specs.Prelude.{◌≡◌, ℕ, ◌+◌, ◌<◌, Bool, false, List, [], ◌∷◌, ◌++◌, Some, None, map, if◌then◌else◌}
use Rattle.yd_any.specs.Tree.{no_trees, tree}
use Rattle.yd_ids.specs.Ids.{is_same}
use Rattle.yd_ids.specs.declared.id.Id.{Id}
use Rattle.yd_ops.specs.Joining.{joined_run, run_joins}
use Rattle.yd_ops.specs.Operation.{Operation, UnitContent, any_unit, bytes, deleted_unit, embedded, gone_from, gone_unit, json_unit, later_id, mark, nested_type, operations_of_run, text_unit}
use Rattle.yd_ops.specs.Value.{ContentValue, RunValue, StructValue, any, binary, deleted, embed, format, gone, item, json, len_of, nested, string}
use Rattle.yd_meaning.specs.Held.{is_gone}

-- the content of one unit alone; a gone unit has no content, so of that it is not asked
abbrev pub content_of_unit : UnitContent → ContentValue
content_of_unit (text_unit unit) = string (unit ∷ [])
content_of_unit (any_unit value) = any (tree value no_trees)
content_of_unit (json_unit value) = json (value ∷ [])
content_of_unit (bytes blob) = binary blob
content_of_unit (embedded value) = embed value
content_of_unit (mark key value) = format key value
content_of_unit (nested_type kind) = nested kind
content_of_unit deleted_unit = deleted 1
content_of_unit gone_unit = deleted 1

-- ---- groups

-- what one struct has: a run, or some gone units, from an id on
pub data Group : Type 0 where
  of_run : RunValue → Group
  of_gone : Id → ℕ → Group

-- the id of its first unit
abbrev pub start_of : Group → Id
start_of (of_run run) = run.id
start_of (of_gone id count) = id

-- how many units it has
abbrev pub size_of : Group → ℕ
size_of (of_run run) = len_of run.content
size_of (of_gone id count) = count

-- its struct
abbrev pub struct_of : Group → StructValue
struct_of (of_run run) = item run
struct_of (of_gone id count) = gone count

-- its operations
abbrev pub operations_of_group : Group → List Operation
operations_of_group (of_run run) = operations_of_run run
operations_of_group (of_gone id count) = gone_from id count

-- the operations of some groups, one group after another
abbrev pub operations_of_groups : List Group → List Operation
operations_of_groups [] = []
operations_of_groups (group ∷ groups) = operations_of_group group ++ operations_of_groups groups

-- one operation as a run
abbrev pub run_of : Operation → RunValue
run_of o = record { id = o.id; left = o.left_origin; right = o.right_origin; list = o.list; content = content_of_unit o.content }

-- one operation as a group
abbrev pub group_of : Operation → Group
group_of o = if is_gone o then of_gone o.id 1 else of_run (run_of o)

-- whether a group goes on with the next one: as runs do, and gone units with the gone units of the next clocks
abbrev pub group_joins : Group → Group → Bool
group_joins (of_run run) (of_run next) = run_joins run next
group_joins (of_run run) (of_gone id count) = false
group_joins (of_gone id count) (of_run next) = false
group_joins (of_gone id count) (of_gone next more) = is_same next (later_id id count)

-- both as one group
abbrev pub joined_group : Group → Group → Group
joined_group (of_run run) (of_run next) = of_run (joined_run run next)
joined_group (of_run run) (of_gone id count) = of_run run
joined_group (of_gone id count) (of_run next) = of_gone id count
joined_group (of_gone id count) (of_gone next more) = of_gone id (count + more)

-- a group in front of others; it is joined with the first of them where it goes on with that
abbrev pub in_front : Group → List Group → List Group
in_front group [] = group ∷ []
in_front group (next ∷ groups) = if group_joins group next then joined_group group next ∷ groups else group ∷ next ∷ groups

-- groups, joined wherever one goes on with the next
abbrev pub gathered : List Group → List Group
gathered [] = []
gathered (group ∷ groups) = in_front group (gathered groups)

-- operations as the largest groups
abbrev pub groups_for : List Operation → List Group
groups_for os = gathered (map group_of os)

-- two lists of groups, one behind the other; at the border the last group of one is joined with the first of the other, where it goes on with it
abbrev pub met : List Group → List Group → List Group
met [] others = others
met (group ∷ []) others = in_front group others
met (group ∷ next ∷ groups) others = group ∷ met (next ∷ groups) others

-- no group goes on with the next
abbrev pub AreApart : List Group → Type 0
AreApart [] = Unit {0}
AreApart (group ∷ []) = Unit {0}
AreApart (group ∷ next ∷ groups) = (group_joins group next ≡ false) × AreApart (next ∷ groups)

-- the group has a unit, and a run with a left origin carries no list
abbrev pub IsGroup : Group → Type 0
IsGroup (of_run run) = (0 < len_of run.content) × ((y : Id) → run.left ≡ Some y → run.list ≡ None)
IsGroup (of_gone id count) = 0 < count
