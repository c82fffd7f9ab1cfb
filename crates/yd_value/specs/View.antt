-- The tree that a shown value stands for.
use Rattle.std.specs.Prelude.{List, map, ℕ, codes}
use Rattle.yd_any.specs.Tree.{AnyTree, AnyTrees, AnyFields, undefined, null, flag, whole, raw4, raw8, big, str, list, pairs, blob, trees_of, fields_of, field, no_fields}
use Rattle.yd_value.specs.declared.shown.Shown.{Shown, fold-Shown}
use Rattle.yd_value.specs.declared.shown.ShownElement.{ShownElement, fold-ShownElement}
use Rattle.yd_value.specs.declared.shown.ShownList.{ShownList, fold-ShownList}
use Rattle.yd_value.specs.declared.shown.ShownFields.{ShownFields, fold-ShownFields}
use Rattle.yd_value.specs.declared.shown.Shown.TheOpen.{Shown-F, ShownElement-F, ShownList-F, ShownFields-F}

-- an element: its attributes, its children and its name
abbrev pub element_tree : AnyFields → AnyTree → List ℕ → AnyTree
element_tree attributes children name = pairs (field (codes "attributes") (pairs attributes)
    (field (codes "children") children (field (codes "name") (str name) no_fields)))

-- one level, with each value inside already seen as its tree
abbrev pub shown_step : Shown-F AnyTree AnyTree AnyFields AnyTrees → AnyTree
shown_step Shown-F.Undefined = undefined
shown_step Shown-F.Null = null
shown_step (Shown-F.Flag b) = flag b
shown_step (Shown-F.Whole n) = whole n
shown_step (Shown-F.Raw4 bs) = raw4 bs
shown_step (Shown-F.Raw8 bs) = raw8 bs
shown_step (Shown-F.Big n) = big n
shown_step (Shown-F.Str t) = str t
shown_step (Shown-F.List ts) = list ts
shown_step (Shown-F.Fields fs) = pairs fs
shown_step (Shown-F.Element e) = e.value
shown_step (Shown-F.Blob bs) = blob bs

-- an element, with its attributes and children already seen
abbrev pub element_step : ShownElement-F AnyTree AnyTree AnyFields AnyTrees → AnyTree
element_step e = element_tree e.attributes e.children e.name

-- the values of a list, in order
abbrev pub list_step : ShownList-F AnyTree AnyTree AnyFields AnyTrees → AnyTrees
list_step l = trees_of l.items.items

-- the keys and values, in order
abbrev pub fields_step : ShownFields-F AnyTree AnyTree AnyFields AnyTrees → AnyFields
fields_step p = fields_of p.items.items

-- the tree of a shown value
abbrev pub shown_tree : Shown → AnyTree
shown_tree = fold-Shown AnyTree AnyTree AnyFields AnyTrees shown_step element_step fields_step list_step

-- the tree of a shown element
abbrev pub tree_of_element : ShownElement → AnyTree
tree_of_element = fold-ShownElement AnyTree AnyTree AnyFields AnyTrees shown_step element_step fields_step list_step

-- the trees of a list's values
abbrev pub shown_trees : ShownList → AnyTrees
shown_trees = fold-ShownList AnyTree AnyTree AnyFields AnyTrees shown_step element_step fields_step list_step

-- the keys of fields, with the trees of their values
abbrev pub shown_fields : ShownFields → AnyFields
shown_fields = fold-ShownFields AnyTree AnyTree AnyFields AnyTrees shown_step element_step fields_step list_step

-- the same of values that are lent
abbrev pub items_trees : List Shown → AnyTrees
items_trees vs = trees_of (map shown_tree vs)

-- the same of keys and values that are lent
abbrev pub entries_fields : List (List ℕ × Shown) → AnyFields
entries_fields es = fields_of (map (λ e. (e.0, shown_tree e.1)) es)
