-- What of an any-value a JSON value carries.
use Rattle.std.specs.Prelude.{◌&&◌, ℕ, List, Bool, true, false}
use Rattle.std.specs.Ordering.{nat_cmp, match_ordering}
use Rattle.std.specs.Cmp.Lexicographic.{slice_cmp}
use Rattle.yd_any.specs.Tree.{AnyTree, AnyTrees, AnyFields, undefined, null, flag, whole, raw4, raw8, big, str, list, pairs, blob, no_trees, tree, no_fields, field}
use Rattle.yd_any.specs.Valid.{is_small}

abbrev mutual
  -- each value inside is of a JSON kind, and each number one that JSON values carry
  pub is_carried : AnyTree → Bool
  is_carried undefined = false
  is_carried null = true
  is_carried (flag b) = true
  is_carried (whole n) = is_small n
  is_carried (raw4 bs) = false
  is_carried (raw8 bs) = false
  is_carried (big n) = false
  is_carried (str s) = true
  is_carried (list ts) = are_carried ts
  is_carried (pairs fs) = fields_are_carried fs
  is_carried (blob bs) = false

  -- the same of values in a row
  pub are_carried : AnyTrees → Bool
  are_carried no_trees = true
  are_carried (tree t ts) = is_carried t && are_carried ts

  -- the same of the values under keys
  pub fields_are_carried : AnyFields → Bool
  fields_are_carried no_fields = true
  fields_are_carried (field k t fs) = is_carried t && fields_are_carried fs

-- the fields, with this value at this key, and the keys in the order of their bytes
abbrev pub put : List ℕ → AnyTree → AnyFields → AnyFields
put k t no_fields = field k t no_fields
put k t (field l u fs) = match_ordering (slice_cmp nat_cmp k l) (field k t (field l u fs)) (field l t fs) (field l u (put k t fs))

abbrev mutual
  -- the value with the keys of each object in order, of equal keys the last one
  pub settled : AnyTree → AnyTree
  settled undefined = undefined
  settled null = null
  settled (flag b) = flag b
  settled (whole n) = whole n
  settled (raw4 bs) = raw4 bs
  settled (raw8 bs) = raw8 bs
  settled (big n) = big n
  settled (str s) = str s
  settled (list ts) = list (settled_trees ts)
  settled (pairs fs) = pairs (settled_fields no_fields fs)
  settled (blob bs) = blob bs

  -- the same of values in a row
  pub settled_trees : AnyTrees → AnyTrees
  settled_trees no_trees = no_trees
  settled_trees (tree t ts) = tree (settled t) (settled_trees ts)

  -- with the fields that stood before
  pub settled_fields : AnyFields → AnyFields → AnyFields
  settled_fields found no_fields = found
  settled_fields found (field k t fs) = settled_fields (put k (settled t) found) fs
