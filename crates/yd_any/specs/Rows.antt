-- Values in a row: the first of them and the others, and one row behind another.
use Rattle.std.specs.Prelude.{ℕ, zero, suc}
use Rattle.yd_any.specs.Tree.{AnyTrees, no_trees, tree}

-- the first n values of a row, or all where there are fewer
abbrev pub first_trees : ℕ → AnyTrees → AnyTrees
first_trees zero ts = no_trees
first_trees (suc n) no_trees = no_trees
first_trees (suc n) (tree t ts) = tree t (first_trees n ts)

-- the others, behind the first n
abbrev pub other_trees : ℕ → AnyTrees → AnyTrees
other_trees zero ts = ts
other_trees (suc n) no_trees = no_trees
other_trees (suc n) (tree t ts) = other_trees n ts

-- values in a row, and then others
abbrev pub trees_and : AnyTrees → AnyTrees → AnyTrees
trees_and no_trees others = others
trees_and (tree t ts) others = tree t (trees_and ts others)
