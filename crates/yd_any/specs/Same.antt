-- When two plain values are the same, as tests.
use Rattle.std.specs.Bool.{beq}
use Rattle.std.specs.Ordering.{int_eq}
use Rattle.std.specs.Prelude.{Bool, true, false, ◌&&◌}
use Rattle.std.specs.Str.{bytes_eq}
use Rattle.yd_any.specs.Tree.{AnyTree, AnyTrees, AnyFields, undefined, null, flag, whole, raw4, raw8, big, str, list, pairs, blob, no_trees, tree, no_fields, field}

abbrev mutual
  -- whether two values are the same
  pub same_tree : AnyTree → AnyTree → Bool
  same_tree undefined undefined = true
  same_tree null null = true
  same_tree (flag a) (flag b) = beq a b
  same_tree (whole m) (whole n) = int_eq m n
  same_tree (raw4 a) (raw4 b) = bytes_eq a b
  same_tree (raw8 a) (raw8 b) = bytes_eq a b
  same_tree (big m) (big n) = int_eq m n
  same_tree (str a) (str b) = bytes_eq a b
  same_tree (list a) (list b) = same_trees a b
  same_tree (pairs a) (pairs b) = same_fields a b
  same_tree (blob a) (blob b) = bytes_eq a b
  same_tree _ _ = false

  -- whether two rows of values are
  pub same_trees : AnyTrees → AnyTrees → Bool
  same_trees no_trees no_trees = true
  same_trees (tree a us) (tree b vs) = same_tree a b && same_trees us vs
  same_trees _ _ = false

  -- whether two rows of keys with values are
  pub same_fields : AnyFields → AnyFields → Bool
  same_fields no_fields no_fields = true
  same_fields (field k a us) (field l b vs) = bytes_eq k l && same_tree a b && same_fields us vs
  same_fields _ _ = false
