-- The tree that an any-value stands for.
use Rattle.std.specs.Prelude.{List, map, ℕ}
use Rattle.yd_any.specs.Tree.{AnyTree, AnyTrees, AnyFields, undefined, null, flag, whole, raw4, raw8, big, str, list, pairs, blob, trees_of, fields_of}
use Rattle.yd_any.specs.declared.any_value.Any.{Any, fold-Any}
use Rattle.yd_any.specs.declared.any_value.AnyList.{AnyList, fold-AnyList}
use Rattle.yd_any.specs.declared.any_value.AnyPairs.{AnyPairs, fold-AnyPairs}
use Rattle.yd_any.specs.declared.any_value.Any.TheOpen.{Any-F, AnyList-F, AnyPairs-F}

-- one level, with each value inside already seen as its tree
abbrev pub any_step : Any-F AnyTree AnyTrees AnyFields → AnyTree
any_step Any-F.Undefined = undefined
any_step Any-F.Null = null
any_step (Any-F.Flag b) = flag b
any_step (Any-F.Whole n) = whole n
any_step (Any-F.Raw4 bs) = raw4 bs
any_step (Any-F.Raw8 bs) = raw8 bs
any_step (Any-F.Big n) = big n
any_step (Any-F.Str t) = str t
any_step (Any-F.List ts) = list ts
any_step (Any-F.Pairs fs) = pairs fs
any_step (Any-F.Blob bs) = blob bs

-- the values of a list, in order
abbrev pub list_step : AnyList-F AnyTree AnyTrees AnyFields → AnyTrees
list_step l = trees_of l.items.items

-- the keys and values, in written order
abbrev pub pairs_step : AnyPairs-F AnyTree AnyTrees AnyFields → AnyFields
pairs_step p = fields_of p.items.items

-- the tree of an any-value
abbrev pub any_tree : Any → AnyTree
any_tree = fold-Any AnyTree AnyTrees AnyFields any_step list_step pairs_step

-- the trees of a list's values
abbrev pub any_trees : AnyList → AnyTrees
any_trees = fold-AnyList AnyTree AnyTrees AnyFields any_step list_step pairs_step

-- the keys of pairs, with the trees of their values
abbrev pub any_fields : AnyPairs → AnyFields
any_fields = fold-AnyPairs AnyTree AnyTrees AnyFields any_step list_step pairs_step

-- the same of values that are lent
abbrev pub items_trees : List Any → AnyTrees
items_trees vs = trees_of (map any_tree vs)

-- the same of keys and values that are lent
abbrev pub entries_fields : List (List ℕ × Any) → AnyFields
entries_fields es = fields_of (map (λ e. (e.0, any_tree e.1)) es)
