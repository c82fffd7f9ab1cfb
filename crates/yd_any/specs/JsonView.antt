-- The tree that a JSON value stands for.
use Rattle.std.specs.Prelude.{List, map, ℕ}
use Rattle.yd_any.specs.Tree.{AnyTree, AnyTrees, AnyFields, null, flag, whole, str, list, pairs, trees_of, fields_of}
use Rattle.yd_any.specs.declared.json_value.Json.{Json, fold-Json}
use Rattle.yd_any.specs.declared.json_value.JsonList.{JsonList, fold-JsonList}
use Rattle.yd_any.specs.declared.json_value.JsonFields.{JsonFields, fold-JsonFields}
use Rattle.yd_any.specs.declared.json_value.Json.TheOpen.{Json-F, JsonList-F, JsonFields-F}

-- one level, with each value inside already seen as its tree
abbrev pub json_step : Json-F AnyTree AnyFields AnyTrees → AnyTree
json_step Json-F.Null = null
json_step (Json-F.Flag b) = flag b
json_step (Json-F.Whole n) = whole n
json_step (Json-F.Str t) = str t
json_step (Json-F.List ts) = list ts
json_step (Json-F.Fields fs) = pairs fs

-- the values of a list, in order
abbrev pub list_step : JsonList-F AnyTree AnyFields AnyTrees → AnyTrees
list_step l = trees_of l.items.items

-- the keys and values, in order
abbrev pub fields_step : JsonFields-F AnyTree AnyFields AnyTrees → AnyFields
fields_step p = fields_of p.items.items

-- the tree of a JSON value
abbrev pub json_tree : Json → AnyTree
json_tree = fold-Json AnyTree AnyFields AnyTrees json_step fields_step list_step

-- the trees of a list's values
abbrev pub json_trees : JsonList → AnyTrees
json_trees = fold-JsonList AnyTree AnyFields AnyTrees json_step fields_step list_step

-- the keys of an object, with the trees of their values
abbrev pub json_fields : JsonFields → AnyFields
json_fields = fold-JsonFields AnyTree AnyFields AnyTrees json_step fields_step list_step

-- the same of values that are lent
abbrev pub items_trees : List Json → AnyTrees
items_trees vs = trees_of (map json_tree vs)

-- the same of keys and values that are lent
abbrev pub entries_fields : List (List ℕ × Json) → AnyFields
entries_fields es = fields_of (map (λ e. (e.0, json_tree e.1)) es)
