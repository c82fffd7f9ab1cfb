-- The tree of a value that `serde_json` read.
use Rattle.std.specs.Prelude.{pos}
use Rattle.serde_json.specs.Data.{Num, unsigned, negative, float, Data, Items, no_items, item, Members, no_members, member}
use Rattle.yd_any.specs.Tree.{AnyTree, AnyTrees, AnyFields, undefined, null, flag, whole, str, list, pairs, no_trees, tree, no_fields, field}

-- a float, as which fractions, exponents, `-0` and wide numbers are read, is nothing that JSON values carry
abbrev pub number_tree : Num → AnyTree
number_tree (unsigned n) = whole (pos n)
number_tree (negative z) = whole z
number_tree (float x) = undefined

abbrev mutual
  -- kind by kind the same, but for floats
  pub data_tree : Data → AnyTree
  data_tree Data.null = null
  data_tree (Data.boolean b) = flag b
  data_tree (Data.number n) = number_tree n
  data_tree (Data.string s) = str s
  data_tree (Data.array ds) = list (data_trees ds)
  data_tree (Data.object ms) = pairs (data_fields ms)

  -- the same of items
  pub data_trees : Items → AnyTrees
  data_trees no_items = no_trees
  data_trees (item d ds) = tree (data_tree d) (data_trees ds)

  -- the same of members
  pub data_fields : Members → AnyFields
  data_fields no_members = no_fields
  data_fields (member k d ms) = field k (data_tree d) (data_fields ms)
